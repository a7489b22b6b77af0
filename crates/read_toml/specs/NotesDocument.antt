-- What short and long notes share as documents: switches, lists with their patterns, and arrays of
-- tables, each of which says a value.
use Rattle.std.specs.Prelude.{◌≡◌, ℕ, ◌+◌, ◌==◌, Bool, true, false, if◌then◌else◌}
use Rattle.std.specs.Prelude.{List, [], ◌∷◌, ◌++◌, map, flat_map, codes, Some, None}
use Rattle.std.specs.List.{list_any}
use Rattle.base_notes.specs.declared.notes.pattern.Pattern.{Pattern}
use Rattle.base_notes.specs.declared.notes.programmed.Programmed.{Programmed}
use Rattle.base_notes.specs.declared.notes.programmed.Programmed.TheVariants.{Stop, Run, Any}
use Rattle.base_notes.specs.Allowed.{AreSound, Listed, Notes}
use Rattle.base_notes.specs.Edges.{leads}
use Rattle.read_toml.specs.Document.{Fault, in_turn, two_marks, two_lists, unknown_in, missing_in}
use Rattle.read_toml.specs.Document.{whole, location, locations_at, tables, text, number_at, items_at}
use Rattle.toml.specs.Data.{Data, string, table, Items, no_items, item, Members, get_member}

abbrev pub text_of : Programmed → List ℕ
text_of Stop = codes "stop"
text_of Run = codes "run"
text_of Any = codes "any"

abbrev pub load_text_of : Bool → List ℕ
load_text_of false = codes "none"
load_text_of true = codes "any"

abbrev pub list_keys : List (List ℕ)
list_keys = codes "location" ∷ codes "pattern" ∷ []

abbrev pub pattern_keys : List (List ℕ)
pattern_keys = codes "op" ∷ codes "d_from" ∷ codes "d_to" ∷ codes "i" ∷ []

-- the faults that each check of a pattern finds: unknown keys, missing keys, and then the values
abbrev pub pattern_checks : List ℕ → Members → List (List Fault)
pattern_checks at fields =
    unknown_in at pattern_keys fields ∷ missing_in at pattern_keys fields
    ∷ whole 0 99 at (codes "op") fields ∷ whole 0 9999 at (codes "d_from") fields
    ∷ whole (number_at (codes "d_from") fields) 9999 at (codes "d_to") fields
    ∷ whole 0 9999 at (codes "i") fields ∷ []

abbrev pub pattern_faults : ℕ → List ℕ → Members → List Fault
pattern_faults number at fields = in_turn (pattern_checks at fields)

-- the same of a list
abbrev pub list_checks : List ℕ → Members → List (List Fault)
list_checks at fields =
    unknown_in at list_keys fields ∷ missing_in at list_keys fields
    ∷ location at (codes "location") fields
    ∷ tables 1 (Some 64) pattern_faults at (codes "pattern") fields ∷ []

abbrev pub list_faults : ℕ → List ℕ → Members → List Fault
list_faults number at fields = in_turn (list_checks at fields)

-- the table that a value is, if it is one, and those of an array's elements, and of the array at a
-- key
abbrev pub table_of : Data → List Members
table_of (table fields) = fields ∷ []
table_of _ = []

abbrev pub tables_of : Items → List Members
tables_of no_items = []
tables_of (item value items) = table_of value ++ tables_of items

abbrev pub tables_at : List ℕ → Members → List Members
tables_at key fields = tables_of (items_at key fields)

-- each of the tables says a value, in order; the first of them has this index
abbrev pub AreSaid : {A : Type 0} → (ℕ → Members → A → Type 0) → ℕ → List Members → List A → Type 0
AreSaid Say index [] [] = Unit {0}
AreSaid Say index (fields ∷ tables) (one ∷ more) =
    Say index fields one × AreSaid Say (index + 1) tables more
AreSaid Say index [] (one ∷ more) = ⊥
AreSaid Say index (fields ∷ tables) [] = ⊥

-- The table says this pattern: at the keys stand its numbers.
pub record IsPattern (fields : Members) (pattern : Pattern) : Type 0 where
  pub op : pattern.op ≡ number_at (codes "op") fields
  pub d_from : pattern.d_from ≡ number_at (codes "d_from") fields
  pub d_to : pattern.d_to ≡ number_at (codes "d_to") fields
  pub i : pattern.i ≡ number_at (codes "i") fields

-- The table says this list: its location, and its patterns in order.
pub record IsListed (fields : Members) (listed : Listed) : Type 0 where
  pub location : listed.location ≡ number_at (codes "location") fields
  pub patterns : AreSaid (λ index one pattern. IsPattern one pattern) 0
      (tables_at (codes "pattern") fields) listed.patterns

-- the edge is among these
abbrev pub has_edge : List (ℕ × ℕ) → ℕ × ℕ → Bool
has_edge edges edge = list_any (leads edge.0 edge.1) edges

-- a fault for each edge that is among these earlier ones, or among those before it
abbrev pub edge_faults : List (ℕ × ℕ) → List (ℕ × ℕ) → List Fault
edge_faults earlier [] = []
edge_faults earlier (edge ∷ edges) =
    (if has_edge earlier edge then two_marks edge.0 edge.1 ∷ [] else [])
    ++ edge_faults (earlier ++ edge ∷ []) edges

-- the location is among these
abbrev pub has_location : List ℕ → ℕ → Bool
has_location places place = list_any (λ one. one == place) places

-- the same of the locations of lists
abbrev pub location_faults : List ℕ → List ℕ → List Fault
location_faults earlier [] = []
location_faults earlier (place ∷ places) =
    (if has_location earlier place then two_lists place ∷ [] else [])
    ++ location_faults (earlier ++ place ∷ []) places

-- A fault for each of these edges that an earlier one is, where the marks have no other fault: else
-- it isn't known which edges they have.
abbrev pub repeated_edges : List Fault → List (ℕ × ℕ) → List Fault
repeated_edges [] edges = edge_faults [] edges
repeated_edges (fault ∷ faults) edges = []

-- a fault for each list whose location an earlier one says, whatever else is wrong with the lists
abbrev pub repeated_locations : Members → List Fault
repeated_locations document =
    location_faults []
    (flat_map (locations_at (codes "location")) (tables_at (codes "list") document))

-- The faults that each check of notes finds, where these are the keys that they may have, the
-- faults of their marks, those of their calls, and the edges of the marks.
abbrev pub notes_checks : List (List ℕ) → List Fault → List Fault → List (ℕ × ℕ) → Members
    → List (List Fault)
notes_checks keys marks calls edges document =
    unknown_in [] keys document
    ∷ missing_in [] (codes "programmed" ∷ codes "load_cards" ∷ []) document
    ∷ text (map text_of (Stop ∷ Run ∷ Any ∷ [])) [] (codes "programmed") document
    ∷ text (map load_text_of (false ∷ true ∷ [])) [] (codes "load_cards") document
    ∷ marks
    ∷ tables 0 None list_faults [] (codes "list") document
    ∷ calls
    ∷ repeated_edges marks edges
    ∷ repeated_locations document ∷ []

-- The document says where the notes have the switch, whether load cards are read, and the lists.
pub record SaysRest (document : Members) (notes : Notes) : Type 0 where
  pub programmed : get_member (codes "programmed") document
      ≡ Some (string (text_of notes.programmed))
  pub load_cards : get_member (codes "load_cards") document
      ≡ Some (string (load_text_of notes.load_cards))
  pub lists : AreSaid (λ index fields listed. IsListed fields listed) 0
      (tables_at (codes "list") document) notes.lists
  pub sound : AreSound notes

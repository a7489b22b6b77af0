-- A mark of long notes as a document says it: on one edge, from `from` to `to`, or on those that it
-- lists; and its faults in their order.
use Rattle.std.specs.Prelude.{◌≡◌, ℕ, ◌+◌, ◌-◌, ◌<◌, ◌&&◌, ◌||◌, not, nat_le, Bool, true}
use Rattle.std.specs.Prelude.{false, if◌then◌else◌, List, [], ◌∷◌, ◌++◌, take}
use Rattle.std.specs.Prelude.{slice_get, codes, decimal, pos, Option, Some, None, is_some}
use Rattle.std.specs.Prelude.{◌⊎◌}
use Rattle.std.specs.List.{list_any}
use Rattle.base_words.specs.Location.{is_location}
use Rattle.base_notes.specs.declared.notes.mark.Mark.{Mark}
use Rattle.base_notes.specs.Marks.{edges_of}
use Rattle.base_notes.specs.Names.{is_name}
use Rattle.read_toml.specs.Document.{Fault, range, kind, in_turn, unknown_in, missing_in, at_key}
use Rattle.read_toml.specs.Document.{whole, location, number_in, number_at, number_faults}
use Rattle.read_toml.specs.Document.{is_count, count_of, items_at}
use Rattle.toml.specs.Data.{Data, string, integer, array, Items, no_items, item, Members}
use Rattle.toml.specs.Data.{get_member, same_key, as_str, as_table}

-- whether a mark's table lists its edges: it has the key for that, and neither `from` nor `to`
abbrev pub lists_edges : Members → Bool
lists_edges fields = is_some (get_member (codes "edges") fields)
    && not (is_some (get_member (codes "from") fields)
    || is_some (get_member (codes "to") fields))

-- the keys that the table may have, by whether it lists its edges, and those that it must have
abbrev pub long_mark_keys : Bool → List (List ℕ)
long_mark_keys true = codes "edges" ∷ codes "most" ∷ codes "inside" ∷ codes "name" ∷ []
long_mark_keys false =
    codes "from" ∷ codes "to" ∷ codes "most" ∷ codes "inside" ∷ codes "name" ∷ []

abbrev pub wanted_keys : Bool → List (List ℕ)
wanted_keys true = codes "most" ∷ []
wanted_keys false = codes "from" ∷ codes "to" ∷ codes "most" ∷ []

-- the name that an element of the array of marks says, if it says one
abbrev pub text_in : Option Data → Option (List ℕ)
text_in None = None
text_in (Some value) = as_str value

abbrev pub name_in : Option Members → Option (List ℕ)
name_in None = None
name_in (Some fields) = text_in (get_member (codes "name") fields)

abbrev pub name_said : Data → Option (List ℕ)
name_said value = name_in (as_table value)

-- the names that all of them say, in order
abbrev pub names_said : Items → List (Option (List ℕ))
names_said no_items = []
names_said (item value items) = name_said value ∷ names_said items

abbrev pub names_in : Members → List (Option (List ℕ))
names_in document = names_said (items_at (codes "mark") document)

-- the value is the number of the outer mark, counted from 1, or its name
abbrev pub IsOuter : List (Option (List ℕ)) → ℕ → Data → Type 0
IsOuter names outer value = (value ≡ integer (pos (outer + 1)))
    ⊎ ((name : List ℕ) × (value ≡ string name) × (slice_get names outer ≡ Some (Some name)))

-- the outer mark, by its index, is none without the key, and an earlier mark with it
abbrev pub StandsIn : List (Option (List ℕ)) → ℕ → Members → Option ℕ → Type 0
StandsIn names index fields None = get_member (codes "inside") fields ≡ None
StandsIn names index fields (Some outer) =
    (value : Data) × (get_member (codes "inside") fields ≡ Some value)
    × IsOuter names outer value × (outer < index)

-- whether one of these names is this text
abbrev pub is_name_of : List ℕ → Option (List ℕ) → Bool
is_name_of text None = false
is_name_of text (Some name) = same_key name text

abbrev pub is_named : List (Option (List ℕ)) → List ℕ → Bool
is_named names text = list_any (is_name_of text) names

-- the faults of a value that is to be an edge: an array of two locations
abbrev pub edge_value_faults : List ℕ → Data → List Fault
edge_value_faults path (array (item from (item onto no_items))) =
    number_faults (path ++ codes ".1") is_location from
    ++ number_faults (path ++ codes ".2") is_location onto
edge_value_faults path (array items) = range path ∷ []
edge_value_faults path _ = kind path ∷ []

-- the faults of a value that is to be the number or the name of one of so many earlier marks, which
-- have these names
abbrev pub outer_faults : List (Option (List ℕ)) → ℕ → List ℕ → Data → List Fault
outer_faults names earlier path (string text) =
    if is_named (take earlier names) text then [] else range path ∷ []
outer_faults names earlier path value =
    number_faults path (λ n. nat_le 1 n && nat_le n earlier) value

-- the faults of a value that is to be a name that none of so many earlier marks has
abbrev pub name_faults : List (Option (List ℕ)) → ℕ → List ℕ → Data → List Fault
name_faults names earlier path (string text) =
    if is_name text && not (is_named (take earlier names) text) then [] else range path ∷ []
name_faults names earlier path _ = kind path ∷ []

-- the faults of elements that are to be edges, the first of which has this number
abbrev pub listed_edge_faults : List ℕ → ℕ → Items → List Fault
listed_edge_faults path number no_items = []
listed_edge_faults path number (item value items) =
    edge_value_faults (path ++ codes "." ++ decimal number) value
    ++ listed_edge_faults path (number + 1) items

-- the faults of a value that is to be a list of 1 to 64 edges
abbrev pub edges_faults : List ℕ → Data → List Fault
edges_faults path (array items) =
    if is_count 1 (Some 64) (count_of items) then listed_edge_faults path 1 items
    else range path ∷ []
edges_faults path _ = kind path ∷ []

-- the faults of the edges of a mark's table
abbrev pub edge_checks : Bool → List ℕ → Members → List Fault
edge_checks true at fields = at_key edges_faults at (codes "edges") fields
edge_checks false at fields = location at (codes "from") fields ++ location at (codes "to") fields

-- the faults that each check of a mark of this number, from 1, finds: unknown keys, missing keys,
-- and then the values
abbrev pub long_mark_checks : Members → ℕ → List ℕ → Members → List (List Fault)
long_mark_checks document number at fields =
    unknown_in at (long_mark_keys (lists_edges fields)) fields
    ∷ missing_in at (wanted_keys (lists_edges fields)) fields
    ∷ edge_checks (lists_edges fields) at fields
    ∷ whole 0 9999 at (codes "most") fields
    ∷ at_key (outer_faults (names_in document) (number - 1)) at (codes "inside") fields
    ∷ at_key (name_faults (names_in document) (number - 1)) at (codes "name") fields ∷ []

abbrev pub long_mark_faults : Members → ℕ → List ℕ → Members → List Fault
long_mark_faults document number at fields =
    in_turn (long_mark_checks document number at fields)

-- the edges that a list of them says, and those of a mark's table; 0 stands for a location that
-- isn't said
abbrev pub edge_of_value : Data → ℕ × ℕ
edge_of_value (array (item from (item onto no_items))) = (number_in from, number_in onto)
edge_of_value _ = (0, 0)

abbrev pub edges_listed : Items → List (ℕ × ℕ)
edges_listed no_items = []
edges_listed (item value items) = edge_of_value value ∷ edges_listed items

abbrev pub edges_by : Bool → Members → List (ℕ × ℕ)
edges_by true fields = edges_listed (items_at (codes "edges") fields)
edges_by false fields =
    (number_at (codes "from") fields, number_at (codes "to") fields) ∷ []

abbrev pub edges_said : Members → List (ℕ × ℕ)
edges_said fields = edges_by (lists_edges fields) fields

-- The table of a document says this mark, the one with this index, from 0: its edges, its most, the
-- outer mark, and the name that stands at the key, if one does.
pub record IsMark (document : Members) (index : ℕ) (fields : Members) (mark : Mark) : Type 0 where
  pub edges : edges_of mark ≡ edges_said fields
  pub most : mark.most ≡ number_at (codes "most") fields
  pub inside : StandsIn (names_in document) index fields mark.inside
  pub name : mark.name ≡ name_in (Some fields)

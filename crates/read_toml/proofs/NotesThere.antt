-- A document of notes without a fault says some; and what has no fault as short notes has none as long ones.
use Rattle.std.proofs.Common.{◌≡◌, ℕ, ◌+◌, ◌-◌, Bool, true, false, ◌||◌, ◌&&◌, cond, List, [], ◌∷◌, ◌++◌, Option, Some, None}
use Rattle.std.proofs.Common.{map, refl, ap, sym, ◌∙◌, arith, le-leb, is_some}
use Rattle.std.proofs.lemmas.Bool.{and_parts, leb-true}
use Rattle.std.specs.Prelude.{codes, decimal, flat_map, nat_le, not}
use Rattle.base_notes.specs.declared.notes.listing.Listing.{Listing}
use Rattle.base_notes.specs.declared.notes.programmed.Programmed.{Programmed}
use Rattle.base_notes.specs.declared.notes.programmed.Programmed.TheVariants.{Stop, Run, Any}
use Rattle.base_notes.specs.Allowed.{Notes}
use Rattle.base_notes.specs.Listed.{listed}
use Rattle.read_toml.specs.declared.notes.read.NotesRead.{NotesRead}
use Rattle.read_toml.specs.declared.notes.read.NotesRead.TheVariants.{Short, Long}
use Rattle.read_toml.specs.Calls.{IsCall, call_faults}
use Rattle.read_toml.specs.Document.{Fault, array_faults, at_key, count_of, element_faults, elements_faults, in_turn}
use Rattle.read_toml.specs.Document.{is_count, is_one_of, location, missing_in, number_faults, range, tables, unknown, unknown_in}
use Rattle.read_toml.specs.Document.{whole}
use Rattle.read_toml.specs.Elements.{Each, HoldsCall, HoldsList, HoldsMark}
use Rattle.read_toml.specs.LongMarks.{IsMark, edge_checks, lists_edges, long_mark_checks, long_mark_faults, long_mark_keys}
use Rattle.read_toml.specs.LongMarks.{edges_by, edges_said, name_faults, names_in, outer_faults, wanted_keys}
use Rattle.read_toml.specs.Kinds.{calls_of, edges_of, keys_of, marks_of}
use Rattle.read_toml.specs.LongNotes.{IsLongNotes, long_marks_faults, long_note_keys, long_notes_faults}
use Rattle.read_toml.specs.NotesDocument as said
use Rattle.read_toml.specs.Says.{faults_of}
use Rattle.read_toml.specs.ShortNotes as short
use Rattle.read_toml.specs.ShortNotes.{mark_checks, mark_faults, mark_keys, note_keys}
use Rattle.read_toml.specs.Value.{StandsFor}
use Rattle.read_toml.proofs.Elements.{array_parts, each_weaker, said_each, tables_hold}
use Rattle.read_toml.proofs.Faultless.{each_none, none_in, nothing_at, said_of, text_there, value_there}
use Rattle.read_toml.proofs.Holding.{CallAt, call_at, call_holds, list_holds}
use Rattle.read_toml.proofs.HoldingMarks.{mark_holds}
use Rattle.read_toml.proofs.Sequences.{none_before, none_behind, no_faults}
use Rattle.read_toml.proofs.Sound.{long_checks, repeated_where, sound_of}
use Rattle.toml.specs.Data.{Data, string, integer, float, boolean, datetime, array, table, Items, no_items, item, Members}
use Rattle.toml.specs.Data.{get_member, no_members, member, same_key}

-- What each table of a document without a fault holds.
pub record AllHold (D : Members) : Type 0 where
  pub marks : Each (HoldsMark D) 0 (said.tables_at (codes "mark") D)
  pub lists : Each (λ _. HoldsList) 0 (said.tables_at (codes "list") D)
  pub calls : Each (λ _. HoldsCall) 0 (said.tables_at (codes "call") D)

pub marks_hold : (D : Members) → long_marks_faults D ≡ [] → Each (HoldsMark D) 0 (said.tables_at (codes "mark") D)
marks_hold D none = tables_hold 0 (Some 64) (long_mark_faults D) (HoldsMark D) (mark_holds D) [] (codes "mark") D none

pub all_hold : (D : Members) → long_notes_faults D ≡ [] → AllHold D
all_hold D none =
    let each = each_none (long_checks D) none in record {
      marks = marks_hold D each.1.1.1.1.0;
      lists = tables_hold 0 None said.list_faults (λ _. HoldsList) list_holds [] (codes "list") D each.1.1.1.1.1.0;
      calls = each_weaker (CallAt D) (λ _. HoldsCall) (call_holds D) 0 (said.tables_at (codes "call") D)
          (tables_hold 0 (Some 64) (call_faults D) (CallAt D) (call_at D) [] (codes "call") D each.1.1.1.1.1.1.0);
    }

abbrev switch_keys : List (List ℕ)
switch_keys = codes "programmed" ∷ codes "load_cards" ∷ []

pub notes_there : (D : Members) → long_notes_faults D ≡ [] → (notes : Notes) × IsLongNotes D notes
notes_there D none =
    let each = each_none (long_checks D) none in
    let hold = all_hold D none in
    let has_programmed = value_there [] switch_keys D (codes "programmed") each.1.0 refl in
    let has_load_cards = value_there [] switch_keys D (codes "load_cards") each.1.0 refl in
    let programmed = text_there said.text_of (Stop ∷ Run ∷ Any ∷ []) []
    (codes "programmed") D has_programmed.0 has_programmed.1 each.1.1.0 in
    let load_cards = text_there said.load_text_of (false ∷ true ∷ []) []
    (codes "load_cards") D has_load_cards.0 has_load_cards.1 each.1.1.1.0 in
    let marks = said_each (IsMark D) 0 (said.tables_at (codes "mark") D)
    (each_weaker (HoldsMark D) _ (λ place fields holds. (holds.mark, holds.says)) 0 _ hold.marks) in
    let lists = said_each (λ index fields listed. said.IsListed fields listed) 0 (said.tables_at (codes "list") D)
    (each_weaker (λ _. HoldsList) _ (λ place fields holds. (holds.list, holds.says)) 0 _ hold.lists) in
    let calls = said_each (λ index fields call. IsCall fields call) 0 (said.tables_at (codes "call") D) hold.calls in (
      record { programmed = programmed.0; load_cards = load_cards.0; marks = marks.0; lists = lists.0; calls = calls.0 },
      record {
        faultless = none;
        marks = marks.1;
        calls = calls.1;
        rest = record {
          programmed = programmed.1;
          load_cards = load_cards.1;
          lists = lists.1;
          sound = sound_of D programmed.0 load_cards.0 marks.0 lists.0 calls.0 none marks.1 lists.1 calls.1;
        };
      },
    )

one_more : (a b c d e : Bool) → (a || (b || (c || (d || false)))) ≡ true → (a || (b || (c || (d || (e || false))))) ≡ true
one_more true b c d e among = refl
one_more false true c d e among = refl
one_more false false true d e among = refl
one_more false false false true e among = refl
one_more false false false false e among = cc

-- where the keys of a table are among these, they are among others that have these
known_too : (at : List ℕ) (keys others : List (List ℕ))
    → ((key : List ℕ) → is_one_of key keys ≡ true → is_one_of key others ≡ true)
    → (fields : Members) → unknown_in at keys fields ≡ [] → unknown_in at others fields ≡ []
known_too at keys others more no_members known = refl
known_too at keys others more (member key value fields) known =
    go (is_one_of key keys) refl known (λ rest. known_too at keys others more fields rest)
  where
    go : (among : Bool) → is_one_of key keys ≡ among
        → cond among [] (unknown (at ++ key) ∷ []) ++ unknown_in at keys fields ≡ []
        → (unknown_in at keys fields ≡ [] → unknown_in at others fields ≡ [])
        → unknown_in at others (member key value fields) ≡ []
    go true is h further =
        ap (λ (b : Bool). cond b [] (unknown (at ++ key) ∷ []) ++ unknown_in at others fields) (more key is) ∙ further h
    go false is h further = cc

mark_keys_too : (key : List ℕ) → is_one_of key mark_keys ≡ true → is_one_of key (long_mark_keys false) ≡ true
mark_keys_too key =
    one_more (same_key (codes "from") key) (same_key (codes "to") key) (same_key (codes "most") key)
    (same_key (codes "inside") key) (same_key (codes "name") key)

note_keys_too : (key : List ℕ) → is_one_of key note_keys ≡ true → is_one_of key long_note_keys ≡ true
note_keys_too key =
    one_more (same_key (codes "programmed") key) (same_key (codes "load_cards") key) (same_key (codes "mark") key)
    (same_key (codes "list") key) (same_key (codes "call") key)

-- a number that is that of an earlier mark has no fault as an outer mark of long notes
outer_too : (names : List (Option (List ℕ))) (earlier : ℕ) (at : List ℕ) (fields : Members)
    → whole 1 earlier at (codes "inside") fields ≡ []
    → at_key (outer_faults names earlier) at (codes "inside") fields ≡ []
outer_too names earlier at fields = go (get_member (codes "inside") fields)
  where
    go : (found : Option Data)
        → said_of (number_faults (at ++ codes "inside") (λ n. nat_le 1 n && nat_le n earlier)) found ≡ []
        → said_of (outer_faults names earlier (at ++ codes "inside")) found ≡ []
    go None fine = refl
    go (Some (integer z)) fine = fine
    go (Some (string s)) fine = cc
    go (Some (float x)) fine = cc
    go (Some (boolean b)) fine = cc
    go (Some (datetime d)) fine = cc
    go (Some (array items)) fine = cc
    go (Some (table _)) fine = cc

-- a mark of short notes doesn't list its edges
single : (at : List ℕ) (fields : Members) → unknown_in at mark_keys fields ≡ [] → lists_edges fields ≡ false
single at fields known =
    ap (λ (found : Option Data). is_some found && not (is_some (get_member (codes "from") fields)
    || is_some (get_member (codes "to") fields))) (nothing_at at mark_keys (codes "edges") fields refl known)

-- so a mark of short notes without a fault has none in long notes
mark_too : (D : Members) (number : ℕ) (at : List ℕ) (fields : Members) → mark_faults number at fields ≡ []
    → long_mark_faults D number at fields ≡ []
mark_too D number at fields none =
    let each = each_none (mark_checks number at fields) none in
    let no_name = nothing_at at mark_keys (codes "name") fields refl each.0 in
    let one = single at fields each.0 in
    none_in (long_mark_checks D number at fields) (
      ap (λ (b : Bool). unknown_in at (long_mark_keys b) fields) one
          ∙ known_too at mark_keys (long_mark_keys false) mark_keys_too fields each.0,
      (
        ap (λ (b : Bool). missing_in at (wanted_keys b) fields) one ∙ each.1.0,
        (
          ap (λ (b : Bool). edge_checks b at fields) one
              ∙ no_faults (location at (codes "from") fields) (location at (codes "to") fields) each.1.1.0 each.1.1.1.0,
          (
            each.1.1.1.1.0,
            (
              outer_too (names_in D) (number - 1) at fields each.1.1.1.1.1.0,
              (ap (said_of (name_faults (names_in D) (number - 1) (at ++ codes "name"))) no_name, tt),
            ),
          ),
        ),
      ),
    )

elements_too : (D : Members) (path : List ℕ) (number : ℕ) (items : Items) → elements_faults mark_faults path number items ≡ []
    → elements_faults (long_mark_faults D) path number items ≡ []
elements_too D path number no_items none = refl
elements_too D path number (item value items) none =
    let at : List ℕ = path ++ codes "." ++ decimal number in
    no_faults (element_faults (long_mark_faults D) number at value)
    (elements_faults (long_mark_faults D) path (number + 1) items)
    (one at value (none_before (element_faults mark_faults number at value)
    (elements_faults mark_faults path (number + 1) items) none))
    (elements_too D path (number + 1) items (none_behind (element_faults mark_faults number at value)
    (elements_faults mark_faults path (number + 1) items) none))
  where
    one : (at : List ℕ) (value : Data) → element_faults mark_faults number at value ≡ []
        → element_faults (long_mark_faults D) number at value ≡ []
    one at (table fields) fine = mark_too D number (at ++ codes ".") fields fine
    one at (string s) fine = cc
    one at (integer z) fine = cc
    one at (float x) fine = cc
    one at (boolean b) fine = cc
    one at (datetime d) fine = cc
    one at (array items) fine = cc

pub marks_too : (D : Members) → short.marks_faults D ≡ [] → long_marks_faults D ≡ []
marks_too D = go (get_member (codes "mark") D)
  where
    go : (found : Option Data) → said_of (array_faults 0 (Some 8) mark_faults (codes "mark")) found ≡ []
        → said_of (array_faults 0 (Some 64) (long_mark_faults D) (codes "mark")) found ≡ []
    go None none = refl
    go (Some (array items)) none =
        let parts = array_parts 0 (Some 8) mark_faults (codes "mark") items none in
        let both = and_parts (nat_le 0 (count_of items)) (nat_le (count_of items) 8) parts.0 in
        let few = leb-true (count_of items) 8 both.1 in
        let fits : is_count 0 (Some 64) (count_of items) ≡ true =
        ap (λ (b : Bool). b && nat_le (count_of items) 64) both.0 ∙ le-leb (count_of items) 64 (omega (arith, few)) in
        ap (λ (b : Bool). cond b (elements_faults (long_mark_faults D) (codes "mark") 1 items) (range (codes "mark") ∷ [])) fits
        ∙ elements_too D (codes "mark") 1 items parts.1
    go (Some (string s)) none = cc
    go (Some (integer z)) none = cc
    go (Some (float x)) none = cc
    go (Some (boolean b)) none = cc
    go (Some (datetime d)) none = cc
    go (Some (table _)) none = cc

-- where the marks are those of short notes without a fault, each says the one edge from `from` to `to`
pub one_edge : (number : ℕ) (at : List ℕ) (fields : Members) → mark_faults (number + 1) at fields ≡ []
    → (let edges : List (ℕ × ℕ) = short.edge_in fields ∷ [] in edges_said fields ≡ edges)
one_edge number at fields none =
    ap (λ (b : Bool). edges_by b fields) (single at fields (each_none (mark_checks (number + 1) at fields) none).0)

edges_map : (place : ℕ) (tables : List Members)
    → Each (λ _ fields. let edges : List (ℕ × ℕ) = short.edge_in fields ∷ [] in edges_said fields ≡ edges) place tables
    → flat_map edges_said tables ≡ map short.edge_in tables
edges_map place [] each = refl
edges_map place (fields ∷ tables) each =
    ap (λ (es : List (ℕ × ℕ)). es ++ flat_map edges_said tables) each.0
    ∙ ap (λ (es : List (ℕ × ℕ)). short.edge_in fields ∷ es) (edges_map (place + 1) tables each.1)

pub short_edges : (D : Members) → short.marks_faults D ≡ []
    → flat_map edges_said (said.tables_at (codes "mark") D) ≡ map short.edge_in (said.tables_at (codes "mark") D)
short_edges D none =
    edges_map 0 (said.tables_at (codes "mark") D)
    (tables_hold 0 (Some 8) mark_faults
    (λ _ fields. let edges : List (ℕ × ℕ) = short.edge_in fields ∷ [] in edges_said fields ≡ edges) one_edge []
    (codes "mark") D none)

abbrev pub short_checks : Members → List (List Fault)
short_checks D =
    said.notes_checks note_keys (short.marks_faults D) [] (map short.edge_in (said.tables_at (codes "mark") D)) D

pub short_too : (D : Members) → short.notes_faults D ≡ [] → long_notes_faults D ≡ []
short_too D none =
    let each = each_none (short_checks D) none in
    let no_calls = nothing_at [] note_keys (codes "call") D refl each.0 in
    let marks = marks_too D each.1.1.1.1.0 in
    let edges : List (ℕ × ℕ) = flat_map edges_said (said.tables_at (codes "mark") D) in
    let shorts : List (ℕ × ℕ) = map short.edge_in (said.tables_at (codes "mark") D) in
    none_in (long_checks D) (
      known_too [] note_keys long_note_keys note_keys_too D each.0,
      (
        each.1.0,
        (
          each.1.1.0,
          (
            each.1.1.1.0,
            (
              marks,
              (
                each.1.1.1.1.1.0,
                (
                  ap (said_of (array_faults 0 (Some 64) (call_faults D) (codes "call"))) no_calls,
                  (
                    repeated_where edges (long_marks_faults D) marks ∙ ap (said.edge_faults []) (short_edges D each.1.1.1.1.0)
                        ∙ sym (repeated_where shorts (short.marks_faults D) each.1.1.1.1.0) ∙ each.1.1.1.1.1.1.1.0,
                    (each.1.1.1.1.1.1.1.1.0, tt),
                  ),
                ),
              ),
            ),
          ),
        ),
      ),
    )

-- whichever notes are read, those without a fault are long ones
pub long_too : (read : NotesRead) (D : Members) → faults_of read D ≡ [] → long_notes_faults D ≡ []
long_too Short D none = short_too D none
long_too Long D none = none

-- and their marks hold
pub marks_hold_of : (read : NotesRead) (D : Members) → marks_of read D ≡ []
    → Each (HoldsMark D) 0 (said.tables_at (codes "mark") D)
marks_hold_of Short D none = marks_hold D (marks_too D none)
marks_hold_of Long D none = marks_hold D none

-- lists as they are read say what their views do
pub lists_said : (place : ℕ) (tables : List Members) (lists : List Listing)
    → said.AreSaid (λ index fields list. said.IsListed fields (listed list)) place tables lists
    → said.AreSaid (λ index fields list. said.IsListed fields list) place tables (map listed lists)
lists_said place [] [] are = tt
lists_said place [] (list ∷ lists) are = absurd are
lists_said place (fields ∷ tables) [] are = absurd are
lists_said place (fields ∷ tables) (list ∷ lists) are = (are.0, lists_said (place + 1) tables lists are.1)

-- the text of where the switch stands, and of whether load cards are read, stand for them
pub programmed_stands : (programmed : Programmed)
    → StandsFor ((codes "stop", Stop) ∷ (codes "run", Run) ∷ (codes "any", Any) ∷ []) (string (said.text_of programmed))
    programmed
programmed_stands Stop = (codes "stop", refl, (0, omega arith, refl))
programmed_stands Run = (codes "run", refl, (1, omega arith, refl))
programmed_stands Any = (codes "any", refl, (2, omega arith, refl))

pub load_stands : (load_cards : Bool)
    → StandsFor ((codes "none", false) ∷ (codes "any", true) ∷ []) (string (said.load_text_of load_cards)) load_cards
load_stands false = (codes "none", refl, (0, omega arith, refl))
load_stands true = (codes "any", refl, (1, omega arith, refl))

-- their edges are those that the tables say
pub edges_are : (read : NotesRead) (D : Members) → marks_of read D ≡ []
    → flat_map edges_said (said.tables_at (codes "mark") D) ≡ edges_of read D
edges_are Short D none = short_edges D none
edges_are Long D none = refl

-- and the parts of their faults are these
pub parts_are : (read : NotesRead) (D : Members)
    → in_turn (said.notes_checks (keys_of read) (marks_of read D) (calls_of read D) (edges_of read D) D) ≡ faults_of read D
parts_are Short D = refl
parts_are Long D = refl

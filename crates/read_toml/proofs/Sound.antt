-- What notes without a fault say is sound.
use Rattle.std.proofs.Common.{◌≡◌, ℕ, ◌+◌, ◌≤◌, ◌<◌, Bool, true, false, ◌&&◌, ◌||◌, cond, List, [], ◌∷◌, ◌++◌, map, length, take}
use Rattle.std.proofs.Common.{Option, Some, None, refl, ap, sym, ◌∙◌, subst, append_assoc, arith, length-append}
use Rattle.std.proofs.Math.Seq.{take-append_seam}
use Rattle.std.proofs.lemmas.Bool.{cases_lt, lt-ltb}
use Rattle.std.proofs.Common.{le-leb, inl, inr}
use Rattle.std.specs.List.{AllByRecursion, list_any}
use Rattle.std.specs.Prelude.{codes, decimal, ◌==◌, IsTrue, flat_map, nat_lt}
use Rattle.base_words.specs.Location.{IsLocation, is_location}
use Rattle.base_notes.specs.declared.notes.call.Call.{Call}
use Rattle.base_notes.specs.declared.notes.mark.Mark.{Mark}
use Rattle.base_notes.specs.declared.notes.programmed.Programmed.{Programmed}
use Rattle.base_notes.specs.Allowed.{AreSound, HaveOwnExits, HaveOwnLocations, IsEarlier, Listed, StandInEarlier, is_same_call}
use Rattle.base_notes.specs.Edges.{StandOnce}
use Rattle.base_notes.specs.Marks.{edges_of}
use Rattle.read_toml.specs.Calls.{IsCall, Opening, call_faults, is_opened, is_opening, opening_in, opening_said}
use Rattle.read_toml.specs.Calls.{openings_in, openings_said}
use Rattle.read_toml.specs.Document.{Fault, two_marks, two_lists, element_faults, elements_faults, locations_at}
use Rattle.read_toml.specs.Document.{array_faults, tables}
use Rattle.read_toml.specs.Elements.{Each, HoldsList}
use Rattle.read_toml.specs.LongMarks.{IsMark, StandsIn, edges_said, long_mark_faults, names_in}
use Rattle.read_toml.specs.LongNotes.{calls_faults, long_marks_faults, long_note_keys, long_notes_faults}
use Rattle.read_toml.specs.NotesDocument as said
use Rattle.read_toml.proofs.Elements.{array_parts, found_items, said_length, tables_few, tables_hold}
use Rattle.read_toml.proofs.Faultless.{LocationAt, each_none, said_of}
use Rattle.read_toml.proofs.Holding.{CallAt, call_at, list_holds, list_place, opening_is, opening_of}
use Rattle.read_toml.proofs.Sequences.{none_before, none_behind}
use Rattle.toml.specs.Data.{Data, string, integer, float, boolean, datetime, array, table, Items, no_items, item, Members}
use Rattle.toml.specs.Data.{get_member}

-- where a check finds none, its test is false
untested : (test : Bool) (fault : Fault) (rest : List Fault) → cond test (fault ∷ []) [] ++ rest ≡ [] → test ≡ false
untested true fault rest none = cc
untested false fault rest none = refl

-- and the test of one in the middle is
pub in_middle : {K : Type 0} (test : K → Bool) (before : List K) (one : K) (behind : List K)
    → list_any test (before ++ one ∷ behind) ≡ false → test one ≡ false
in_middle test [] one behind h = go (test one) h
  where
    go : (b : Bool) → (b || list_any test behind) ≡ false → b ≡ false
    go true e = cc
    go false e = refl
in_middle test (first ∷ before) one behind h = go (test first) h (λ rest. in_middle test before one behind rest)
  where
    go : (b : Bool) → (b || list_any test (before ++ one ∷ behind)) ≡ false
        → (list_any test (before ++ one ∷ behind) ≡ false → test one ≡ false) → test one ≡ false
    go true e further = cc
    go false e further = further e

pub both_false : (a b : Bool) → a ≡ false → b ≡ false → (a || b) ≡ false
both_false true b p q = cc
both_false false b p q = q

abbrev same : ℕ × ℕ → ℕ × ℕ → Bool
same one edge = one.0 == edge.0 && one.1 == edge.1

-- no later edge is an earlier one
no_edge_like : (before : List (ℕ × ℕ)) (one : ℕ × ℕ) (behind edges : List (ℕ × ℕ))
    → said.edge_faults (before ++ one ∷ behind) edges ≡ [] → list_any (same one) edges ≡ false
no_edge_like before one behind [] none = refl
no_edge_like before one behind (edge ∷ edges) none =
    let here : same one edge ≡ false =
    in_middle (λ (other : ℕ × ℕ). same other edge) before one behind
    (untested (said.has_edge (before ++ one ∷ behind) edge) (two_marks edge.0 edge.1)
    (said.edge_faults ((before ++ one ∷ behind) ++ edge ∷ []) edges) none) in
    let rest : said.edge_faults ((before ++ one ∷ behind) ++ edge ∷ []) edges ≡ [] =
    none_behind (cond (said.has_edge (before ++ one ∷ behind) edge) (two_marks edge.0 edge.1 ∷ []) []) _ none in
    both_false (same one edge) (list_any (same one) edges) here
    (no_edge_like before one (behind ++ edge ∷ []) edges
    (ap (λ (es : List (ℕ × ℕ)). said.edge_faults es edges) (sym (append_assoc before (one ∷ behind) (edge ∷ [])))
    ∙ rest))

pub own_edges : (earlier edges : List (ℕ × ℕ)) → said.edge_faults earlier edges ≡ [] → StandOnce edges
own_edges earlier [] none = tt
own_edges earlier (edge ∷ edges) none =
    let rest : said.edge_faults (earlier ++ edge ∷ []) edges ≡ [] =
    none_behind (cond (said.has_edge earlier edge) (two_marks edge.0 edge.1 ∷ []) []) _ none in
    (no_edge_like earlier edge [] edges rest, own_edges (earlier ++ edge ∷ []) edges rest)

-- the location of a list
abbrev pub place_of : Listed → ℕ
place_of list = list.location

-- no later location is an earlier one
no_location_like : (before : List ℕ) (one : ℕ) (behind places : List ℕ)
    → said.location_faults (before ++ one ∷ behind) places ≡ [] → list_any (λ place. one == place) places ≡ false
no_location_like before one behind [] none = refl
no_location_like before one behind (place ∷ places) none =
    let here : (one == place) ≡ false =
    in_middle (λ (other : ℕ). other == place) before one behind
    (untested (said.has_location (before ++ one ∷ behind) place) (two_lists place)
    (said.location_faults ((before ++ one ∷ behind) ++ place ∷ []) places) none) in
    let rest : said.location_faults ((before ++ one ∷ behind) ++ place ∷ []) places ≡ [] =
    none_behind (cond (said.has_location (before ++ one ∷ behind) place) (two_lists place ∷ []) []) _ none in
    both_false (one == place) (list_any (λ place. one == place) places) here
    (no_location_like before one (behind ++ place ∷ []) places
    (ap (λ (ps : List ℕ). said.location_faults ps places) (sym (append_assoc before (one ∷ behind) (place ∷ [])))
    ∙ rest))

any_of_locations : (one : ℕ) (lists : List Listed)
    → list_any (λ place. one == place) (map place_of lists) ≡ list_any (λ other. one == other.location) lists
any_of_locations one [] = refl
any_of_locations one (list ∷ lists) = ap (λ (b : Bool). one == list.location || b) (any_of_locations one lists)

pub own_locations : (earlier : List ℕ) (lists : List Listed) → said.location_faults earlier (map place_of lists) ≡ []
    → HaveOwnLocations lists
own_locations earlier [] none = tt
own_locations earlier (list ∷ lists) none =
    let rest : said.location_faults (earlier ++ list.location ∷ []) (map place_of lists) ≡ [] =
    none_behind (cond (said.has_location earlier list.location) (two_lists list.location ∷ []) []) _ none in (
      sym (any_of_locations list.location lists)
          ∙ no_location_like earlier list.location [] (map place_of lists) rest,
      own_locations
          (earlier ++ list.location ∷ []) lists rest,
    )

-- the edges that the tables of marks say are those of the marks
pub edges_same : (D : Members) (place : ℕ) (tables : List Members) (marks : List Mark)
    → said.AreSaid (IsMark D) place tables marks → flat_map edges_said tables ≡ flat_map edges_of marks
edges_same D place [] [] are = refl
edges_same D place [] (mark ∷ marks) are = absurd are
edges_same D place (fields ∷ tables) [] are = absurd are
edges_same D place (fields ∷ tables) (mark ∷ marks) are =
    ap (λ (es : List (ℕ × ℕ)). es ++ flat_map edges_said tables) (sym are.0.edges)
    ∙ ap (λ (es : List (ℕ × ℕ)). edges_of mark ++ es) (edges_same D (place + 1) tables marks are.1)

-- each mark stands inside of an earlier one, if of any
earlier_outer : (names : List (Option (List ℕ))) (place : ℕ) (fields : Members) (inside : Option ℕ)
    → StandsIn names place fields inside → IsEarlier place inside
earlier_outer names place fields None stands = tt
earlier_outer names place fields (Some outer) (value, has, is, below) = below

nested : (D : Members) (place : ℕ) (tables : List Members) (marks : List Mark)
    → said.AreSaid (IsMark D) place tables marks → StandInEarlier place marks
nested D place [] [] are = tt
nested D place [] (mark ∷ marks) are = absurd are
nested D place (fields ∷ tables) [] are = absurd are
nested D place (fields ∷ tables) (mark ∷ marks) are =
    (earlier_outer (names_in D) place fields mark.inside are.0.inside, nested D (place + 1) tables marks are.1)

abbrev SaysList : ℕ → Members → Listed → Type 0
SaysList place fields list = said.IsListed fields list

-- the locations that the tables of lists say are those of the lists
places_same : (place : ℕ) (tables : List Members) (lists : List Listed)
    → Each (λ _ fields. LocationAt (codes "location") fields) place tables → said.AreSaid SaysList place tables lists
    → flat_map (locations_at (codes "location")) tables ≡ map place_of lists
places_same place [] [] each are = refl
places_same place [] (list ∷ lists) each are = absurd are
places_same place (fields ∷ tables) [] each are = absurd are
places_same place (fields ∷ tables) (list ∷ lists) each are =
    ap (λ (ns : List ℕ). ns ++ flat_map (locations_at (codes "location")) tables)
    (each.0.alone ∙ ap (λ (n : ℕ). let ns : List ℕ = n ∷ [] in ns) (sym are.0.location))
    ∙ ap (λ (ns : List ℕ). list.location ∷ ns) (places_same (place + 1) tables lists each.1 are.1)

either_true : (b : Bool) → (b || true) ≡ true
either_true true = refl
either_true false = refl

is_location_true : (n : ℕ) → IsLocation n → is_location n ≡ true
is_location_true n exists = elim (cases_lt n 2000) [
  | inl below ↦ rw (lt-ltb n 2000 below) refl
  | inr from ↦ beside n (exists.1 from) exists.0
]
  where
    beside : (n : ℕ) → 8000 ≤ n → n < 8004 → is_location n ≡ true
    beside n low high = rw (le-leb 8000 n low, lt-ltb n 8004 high) (either_true (nat_lt n 2000))

-- each list is for a location, and has 1 to 64 patterns
lists_fine : (place : ℕ) (tables : List Members) (lists : List Listed) → Each (λ _. HoldsList) place tables
    → said.AreSaid SaysList place tables lists
    → AllByRecursion (λ list. IsTrue (is_location list.location)) lists
    × AllByRecursion (λ list. (1 ≤ length list.patterns) × (length list.patterns ≤ 64)) lists
lists_fine place [] [] each are = (tt, tt)
lists_fine place [] (list ∷ lists) each are = absurd are
lists_fine place (fields ∷ tables) [] each are = absurd are
lists_fine place (fields ∷ tables) (list ∷ lists) each are =
    let more = lists_fine (place + 1) tables lists each.1 are.1 in
    let holds = each.0 in
    let patterns = said.tables_at (codes "pattern") fields in
    let mine = said_length (λ _. said.IsPattern) 0 patterns list.patterns are.0.patterns in
    let its = said_length (λ _. said.IsPattern) 0 patterns holds.list.patterns holds.says.patterns in
    let place_is : holds.list.location ≡ list.location = holds.says.location ∙ sym are.0.location in (
      (is_location_true list.location (subst IsLocation place_is holds.place), more.0),
      ((omega (arith, mine, its, holds.some), omega (arith, mine, its, holds.few)), more.1),
    )

-- each call opens what none of these, and no call before it, opens
abbrev AreNew : List (Option Opening) → List Call → Type 0
AreNew earlier [] = Unit {0}
AreNew earlier (call ∷ calls) =
    (is_opened earlier (Some (opening_of call)) ≡ false) × AreNew (earlier ++ Some (opening_of call) ∷ []) calls

-- so no later call is an earlier one
none_like : (before : List (Option Opening)) (one : Call) (behind : List (Option Opening)) (calls : List Call)
    → AreNew (before ++ Some (opening_of one) ∷ behind) calls → list_any (is_same_call one) calls ≡ false
none_like before one behind [] new = refl
none_like before one behind (call ∷ calls) (new, rest) =
    both_false (is_same_call one call) (list_any (is_same_call one) calls)
    (in_middle (is_opening (opening_of call)) before (Some (opening_of one)) behind new)
    (none_like before one (behind ++ Some (opening_of call) ∷ []) calls
    (subst (λ (all : List (Option Opening)). AreNew all calls)
    (append_assoc before (Some (opening_of one) ∷ behind) (Some (opening_of call) ∷ [])) rest))

own_from : (earlier : List (Option Opening)) (calls : List Call) → AreNew earlier calls → HaveOwnExits calls
own_from earlier [] new = tt
own_from earlier (call ∷ calls) (new, rest) =
    (none_like earlier call [] calls rest, own_from (earlier ++ Some (opening_of call) ∷ []) calls rest)

-- what the elements of the array of calls open is what their tables do
openings_same : (D : Members) (path : List ℕ) (number : ℕ) (items : Items)
    → elements_faults (call_faults D) path number items ≡ []
    → openings_said items ≡ map opening_in (said.tables_of items)
openings_same D path number no_items none = refl
openings_same D path number (item value items) none =
    one value (none_before (element_faults (call_faults D) number _ value) _ none)
    (openings_same D path (number + 1) items (none_behind (element_faults (call_faults D) number _ value) _ none))
  where
    one : (value : Data) → element_faults (call_faults D) number (path ++ codes "." ++ decimal number) value ≡ []
        → openings_said items ≡ map opening_in (said.tables_of items)
        → opening_said value ∷ openings_said items ≡ map opening_in (said.table_of value ++ said.tables_of items)
    one (table fields) fine more = ap (λ (os : List (Option Opening)). opening_in fields ∷ os) more
    one (string s) fine more = cc
    one (integer z) fine more = cc
    one (float x) fine more = cc
    one (boolean b) fine more = cc
    one (datetime d) fine more = cc
    one (array items) fine more = cc

openings_are : (D : Members) → tables 0 (Some 64) (call_faults D) [] (codes "call") D ≡ []
    → openings_in D ≡ map opening_in (said.tables_at (codes "call") D)
openings_are D = go (get_member (codes "call") D)
  where
    go : (found : Option Data) → said_of (array_faults 0 (Some 64) (call_faults D) (codes "call")) found ≡ []
        → openings_said (found_items found) ≡ map opening_in (said.tables_of (found_items found))
    go None none = refl
    go (Some (array items)) none =
        openings_same D (codes "call") 1 items (array_parts 0 (Some 64) (call_faults D) (codes "call") items none).1
    go (Some (string s)) none = cc
    go (Some (integer z)) none = cc
    go (Some (float x)) none = cc
    go (Some (boolean b)) none = cc
    go (Some (datetime d)) none = cc
    go (Some (table _)) none = cc

new_from : (D : Members) (earlier : List (Option Opening)) (place : ℕ) (tables : List Members) (calls : List Call)
    → openings_in D ≡ earlier ++ map opening_in tables → place ≡ length earlier → Each (CallAt D) place tables
    → said.AreSaid (λ index fields call. IsCall fields call) place tables calls → AreNew earlier calls
new_from D earlier place [] [] all here each are = tt
new_from D earlier place [] (call ∷ calls) all here each are = absurd are
new_from D earlier place (fields ∷ tables) [] all here each are = absurd are
new_from D earlier place (fields ∷ tables) (call ∷ calls) all here each are =
    let opens : opening_in fields ≡ Some (opening_of call) = opening_is D place fields call each.0 are.0 in
    let before : take place (openings_in D) ≡ earlier =
    ap (take place) all ∙ ap (λ (n : ℕ). take n (earlier ++ map opening_in (fields ∷ tables))) here
    ∙ take-append_seam earlier (map opening_in (fields ∷ tables)) in (
      ap (λ (os : List (Option Opening)). is_opened os (Some (opening_of call))) (sym before)
          ∙ ap (is_opened (take place (openings_in D))) (sym opens) ∙ each.0.new,
      new_from D (earlier ++ Some (opening_of call) ∷ []) (place + 1) tables calls
          (all ∙ ap (λ (o : Option Opening). earlier ++ o ∷ map opening_in tables) opens
          ∙ sym (append_assoc earlier (Some (opening_of call) ∷ []) (map opening_in tables)))
          (omega (arith, here, length-append earlier (Some (opening_of call) ∷ []))) each.1 are.1,
    )

-- where the marks have a fault, edges that are there twice aren't looked for
pub repeated_none : (edges : List (ℕ × ℕ)) (faults : List Fault) → (faults ≡ [] → ⊥)
    → said.repeated_edges faults edges ≡ []
repeated_none edges [] some = absurd (some refl)
repeated_none edges (one ∷ faults) some = refl

-- where the marks have no other fault, they are
pub repeated_where : (edges : List (ℕ × ℕ)) (faults : List Fault) → faults ≡ []
    → said.repeated_edges faults edges ≡ said.edge_faults [] edges
repeated_where edges faults none = ap (λ (fs : List Fault). said.repeated_edges fs edges) none

-- the checks of long notes
abbrev pub long_checks : Members → List (List Fault)
long_checks D =
    said.notes_checks long_note_keys (long_marks_faults D) (calls_faults D)
    (flat_map edges_said (said.tables_at (codes "mark") D)) D

-- notes that a document without a fault says
pub sound_of : (D : Members) (programmed : Programmed) (load_cards : Bool) (marks : List Mark) (lists : List Listed)
    (calls : List Call) → long_notes_faults D ≡ [] → said.AreSaid (IsMark D) 0 (said.tables_at (codes "mark") D) marks
    → said.AreSaid SaysList 0 (said.tables_at (codes "list") D) lists
    → said.AreSaid (λ index fields call. IsCall fields call) 0 (said.tables_at (codes "call") D) calls
    → AreSound (record {
      programmed = programmed;
      load_cards = load_cards;
      marks = marks;
      lists = lists;
      calls = calls;
    })
sound_of D programmed load_cards marks lists calls none has_marks has_lists has_calls =
    let each = each_none (long_checks D) none in
    let marks_fine = each.1.1.1.1.0 in
    let lists_none = each.1.1.1.1.1.0 in
    let calls_fine = each.1.1.1.1.1.1.0 in
    let places = tables_hold 0 None said.list_faults (λ _. LocationAt (codes "location")) list_place [] (codes "list") D
    lists_none in
    let fine = lists_fine 0 (said.tables_at (codes "list") D) lists
    (tables_hold 0 None said.list_faults (λ _. HoldsList) list_holds [] (codes "list") D lists_none) has_lists in
    let at = tables_hold 0 (Some 64) (call_faults D) (CallAt D) (call_at D) [] (codes "call") D calls_fine in
    record {
      few_marks = omega (
        arith,
        said_length (IsMark D) 0 (said.tables_at (codes "mark") D) marks has_marks,
        tables_few 64 (long_mark_faults D) [] (codes "mark") D marks_fine,
      );
      own_edges = own_edges [] (flat_map edges_of marks) (ap (said.edge_faults [])
          (sym (edges_same D 0 (said.tables_at (codes "mark") D) marks has_marks))
          ∙ sym (repeated_where (flat_map edges_said (said.tables_at (codes "mark") D)) (long_marks_faults D) marks_fine)
          ∙ each.1.1.1.1.1.1.1.0);
      nested = nested D 0 (said.tables_at (codes "mark") D) marks has_marks;
      own_locations = own_locations [] lists (ap (said.location_faults [])
          (sym (places_same 0 (said.tables_at (codes "list") D) lists places has_lists)) ∙ each.1.1.1.1.1.1.1.1.0);
      locations = fine.0;
      patterns = fine.1;
      few_calls = omega (
        arith,
        said_length (λ index fields call. IsCall fields call) 0 (said.tables_at (codes "call") D) calls has_calls,
        tables_few 64 (call_faults D) [] (codes "call") D calls_fine,
      );
      own_exits = own_from [] calls (new_from D [] 0 (said.tables_at (codes "call") D) calls
          (openings_are D calls_fine) refl at has_calls);
    }

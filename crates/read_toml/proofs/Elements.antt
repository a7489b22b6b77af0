-- Arrays of tables, one table after the other.
use Rattle.std.proofs.Common.{◌≡◌, ℕ, suc, ◌+◌, ◌≤◌, ◌<◌, Bool, true, false, cond, List, [], ◌∷◌, ◌++◌, length, drop, get_or}
use Rattle.std.proofs.Common.{Option, Some, None, refl, ap, sym, ◌∙◌, subst, append_assoc, append-nil, arith}
use Rattle.std.proofs.Common.{length-append}
use Rattle.std.proofs.lemmas.Bool.{and_parts, leb-true}
use Rattle.std.specs.Prelude.{codes, decimal, nat_le}
use Rattle.read_toml.specs.Document.{Fault, array_faults, count_of, element_faults, elements_faults, is_count, items_in}
use Rattle.read_toml.specs.Document.{range, tables}
use Rattle.read_toml.specs.Elements.{Each}
use Rattle.read_toml.specs.NotesDocument.{AreSaid, table_of, tables_at, tables_of}
use Rattle.read_toml.proofs.Faultless.{said_of}
use Rattle.read_toml.proofs.Sequences.{none_before, none_behind}
use Rattle.toml.proofs.Views.{items_view-drop}
use Rattle.toml.specs.Data.{Data, string, integer, float, boolean, datetime, array, table, Items, no_items, item, Members}
use Rattle.toml.specs.Data.{get_member}
use Rattle.toml.specs.View.{view, items_view}
use Rattle.toml.specs.declared.value.Value.{Value}

-- where none of some elements has a fault, each is a table that has what one without a fault has
module _ (check : ℕ → List ℕ → Members → List Fault) (Has : ℕ → Members → Type 0)
    (each : (place : ℕ) (at : List ℕ) (fields : Members) → check (place + 1) at fields ≡ [] → Has place fields) where
  one_holds : (path : List ℕ) (place : ℕ) (value : Data) (rest : List Members)
      → element_faults check (place + 1) path value ≡ [] → Each Has (place + 1) rest
      → Each Has place (table_of value ++ rest)
  one_holds path place (table fields) rest fine more = (each place (path ++ codes ".") fields fine, more)
  one_holds path place (string s) rest fine more = cc
  one_holds path place (integer z) rest fine more = cc
  one_holds path place (float x) rest fine more = cc
  one_holds path place (boolean b) rest fine more = cc
  one_holds path place (datetime d) rest fine more = cc
  one_holds path place (array items) rest fine more = cc

  elements_hold : (path : List ℕ) (place : ℕ) (items : Items) → elements_faults check path (place + 1) items ≡ []
      → Each Has place (tables_of items)
  elements_hold path place no_items none = tt
  elements_hold path place (item value items) none =
      let at : List ℕ = path ++ codes "." ++ decimal (place + 1) in
      one_holds at place value (tables_of items)
      (none_before (element_faults check (place + 1) at value) (elements_faults check path (place + 1 + 1) items) none)
      (elements_hold path (place + 1) items
      (none_behind (element_faults check (place + 1) at value) (elements_faults check path (place + 1 + 1) items) none))

-- and there are as many tables as elements
one_table : (check : ℕ → List ℕ → Members → List Fault) (path : List ℕ) (number : ℕ) (value : Data)
    → element_faults check number path value ≡ [] → length (table_of value) ≡ 1
one_table check path number (table fields) fine = refl
one_table check path number (string s) fine = cc
one_table check path number (integer z) fine = cc
one_table check path number (float x) fine = cc
one_table check path number (boolean b) fine = cc
one_table check path number (datetime d) fine = cc
one_table check path number (array items) fine = cc

all_tables : (check : ℕ → List ℕ → Members → List Fault) (path : List ℕ) (number : ℕ) (items : Items)
    → elements_faults check path number items ≡ [] → length (tables_of items) ≡ count_of items
all_tables check path number no_items none = refl
all_tables check path number (item value items) none =
    let at : List ℕ = path ++ codes "." ++ decimal number in
    let here = one_table check at number value
    (none_before (element_faults check number at value) (elements_faults check path (number + 1) items) none) in
    let more = all_tables check path (number + 1) items
    (none_behind (element_faults check number at value) (elements_faults check path (number + 1) items) none) in
    omega (arith, length-append (table_of value) (tables_of items), here, more)

-- of an array without a fault the elements have none, and there are as many as there may be
pub array_parts : (low : ℕ) (high : Option ℕ) (check : ℕ → List ℕ → Members → List Fault) (path : List ℕ) (items : Items)
    → array_faults low high check path (array items) ≡ []
    → (is_count low high (count_of items) ≡ true) × (elements_faults check path 1 items ≡ [])
array_parts low high check path items none = go (is_count low high (count_of items)) refl none
  where
    go : (fits : Bool) → is_count low high (count_of items) ≡ fits
        → cond fits (elements_faults check path 1 items) (range path ∷ []) ≡ []
        → (is_count low high (count_of items) ≡ true) × (elements_faults check path 1 items ≡ [])
    go true count fine = (count, fine)
    go false count fine = cc

abbrev pub found_items : Option Data → Items
found_items found = elim found [ None ↦ no_items | Some value ↦ items_in value ]

pub tables_hold : (low : ℕ) (high : Option ℕ) (check : ℕ → List ℕ → Members → List Fault) (Has : ℕ → Members → Type 0)
    → ((place : ℕ) (at : List ℕ) (fields : Members) → check (place + 1) at fields ≡ [] → Has place fields)
    → (at key : List ℕ) (fields : Members) → tables low high check at key fields ≡ [] → Each Has 0 (tables_at key fields)
tables_hold low high check Has each at key fields = go (get_member key fields)
  where
    go : (found : Option Data) → said_of (array_faults low high check (at ++ key)) found ≡ []
        → Each Has 0 (tables_of (found_items found))
    go None none = tt
    go (Some (array items)) none =
        elements_hold check Has each (at ++ key) 0 items (array_parts low high check (at ++ key) items none).1
    go (Some (string s)) none = cc
    go (Some (integer z)) none = cc
    go (Some (float x)) none = cc
    go (Some (boolean b)) none = cc
    go (Some (datetime d)) none = cc
    go (Some (table _)) none = cc

pub tables_few : (high : ℕ) (check : ℕ → List ℕ → Members → List Fault) (at key : List ℕ) (fields : Members)
    → tables 0 (Some high) check at key fields ≡ [] → length (tables_at key fields) ≤ high
tables_few high check at key fields = go (get_member key fields)
  where
    go : (found : Option Data) → said_of (array_faults 0 (Some high) check (at ++ key)) found ≡ []
        → length (tables_of (found_items found)) ≤ high
    go None none = omega arith
    go (Some (array items)) none =
        let parts = array_parts 0 (Some high) check (at ++ key) items none in
        let both = and_parts (nat_le 0 (count_of items)) (nat_le (count_of items) high) parts.0 in
        omega (arith, all_tables check (at ++ key) 1 items parts.1, leb-true (count_of items) high both.1)
    go (Some (string s)) none = cc
    go (Some (integer z)) none = cc
    go (Some (float x)) none = cc
    go (Some (boolean b)) none = cc
    go (Some (datetime d)) none = cc
    go (Some (table _)) none = cc

-- and, where the key is there, no fewer than there have to be
pub tables_some : (low high : ℕ) (check : ℕ → List ℕ → Members → List Fault) (at key : List ℕ) (fields : Members)
    (value : Data) → get_member key fields ≡ Some value → tables low (Some high) check at key fields ≡ []
    → (low ≤ length (tables_at key fields)) × (length (tables_at key fields) ≤ high)
tables_some low high check at key fields value = go (get_member key fields)
  where
    go : (found : Option Data) → found ≡ Some value
        → said_of (array_faults low (Some high) check (at ++ key)) found ≡ []
        → (low ≤ length (tables_of (found_items found))) × (length (tables_of (found_items found)) ≤ high)
    go None e none = cc
    go (Some (array items)) e none =
        let parts = array_parts low (Some high) check (at ++ key) items none in
        let both = and_parts (nat_le low (count_of items)) (nat_le (count_of items) high) parts.0 in
        let all = all_tables check (at ++ key) 1 items parts.1 in
        (omega (arith, all, leb-true low (count_of items) both.0), omega (arith, all, leb-true (count_of items) high both.1))
    go (Some (string s)) e none = cc
    go (Some (integer z)) e none = cc
    go (Some (float x)) e none = cc
    go (Some (boolean b)) e none = cc
    go (Some (datetime d)) e none = cc
    go (Some (table _)) e none = cc

-- what each has, each has that follows from it
pub each_weaker : (Has Other : ℕ → Members → Type 0) → ((place : ℕ) (fields : Members) → Has place fields → Other place fields)
    → (place : ℕ) (tables : List Members) → Each Has place tables → Each Other place tables
each_weaker Has Other so place [] each = tt
each_weaker Has Other so place (fields ∷ tables) each =
    (so place fields each.0, each_weaker Has Other so (place + 1) tables each.1)

each_before : (Has : ℕ → Members → Type 0) (place : ℕ) (first rest : List Members) → Each Has place (first ++ rest)
    → Each Has place first
each_before Has place [] rest each = tt
each_before Has place (fields ∷ first) rest each = (each.0, each_before Has (place + 1) first rest each.1)

each_behind : (Has : ℕ → Members → Type 0) (place : ℕ) (first rest : List Members) → Each Has place (first ++ rest)
    → Each Has (place + length first) rest
each_behind Has place [] rest each = subst (λ (n : ℕ). Each Has n rest) (omega arith) each
each_behind Has place (fields ∷ first) rest each =
    subst (λ (n : ℕ). Each Has n rest) (omega arith) (each_behind Has (place + 1) first rest each.1)

module _ {A : Type 0} (Say : ℕ → Members → A → Type 0) where
  -- as many values are said as there are tables
  pub said_length : (place : ℕ) (tables : List Members) (values : List A) → AreSaid Say place tables values
      → length values ≡ length tables
  said_length place [] [] said = refl
  said_length place [] (one ∷ more) said = absurd said
  said_length place (fields ∷ tables) [] said = absurd said
  said_length place (fields ∷ tables) (one ∷ more) said = ap suc (said_length (place + 1) tables more said.1)

  -- each says one of them
  pub each_said : (place : ℕ) (tables : List Members) (values : List A) → AreSaid Say place tables values
      → Each (λ index fields. (one : A) × Say index fields one) place tables
  each_said place [] values said = tt
  each_said place (fields ∷ tables) [] said = absurd said
  each_said place (fields ∷ tables) (one ∷ more) said = ((one, said.0), each_said (place + 1) tables more said.1)

  -- where each says one, they are said
  pub said_each : (place : ℕ) (tables : List Members) → Each (λ index fields. (one : A) × Say index fields one) place tables
      → (values : List A) × AreSaid Say place tables values
  said_each place [] each = ([], tt)
  said_each place (fields ∷ tables) each =
      let more = said_each (place + 1) tables each.1 in (each.0.0 ∷ more.0, (each.0.1, more.1))

  said_append : (place : ℕ) (first rest : List Members) (values others : List A) → AreSaid Say place first values
      → AreSaid Say (place + length values) rest others → AreSaid Say place (first ++ rest) (values ++ others)
  said_append place [] rest [] others said more = subst (λ (n : ℕ). AreSaid Say n rest others) (omega arith) more
  said_append place [] rest (one ∷ values) others said more = absurd said
  said_append place (fields ∷ first) rest [] others said more = absurd said
  said_append place (fields ∷ first) rest (one ∷ values) others said more = (
    said.0,
    said_append (place + 1) first rest values others said.1
        (subst (λ (n : ℕ). AreSaid Say n rest others) (omega arith) more),
  )

  -- what the tables that are left say, with what is there, is what all say; and so it is one element further
  pub says_more : (vs : List Value) (i : ℕ) (v : Value) (elements now more : List A) → i < length vs → v ≡ get_or vs i v
      → now ≡ elements ++ more → AreSaid Say (length elements) (table_of (view v)) more
      → ((rest : List A) → AreSaid Say (length elements) (tables_of (items_view (drop i vs))) rest
      → AreSaid Say 0 (tables_of (items_view vs)) (elements ++ rest))
      → (rest : List A) → AreSaid Say (length now) (tables_of (items_view (drop (i + 1) vs))) rest
      → AreSaid Say 0 (tables_of (items_view vs)) (now ++ rest)
  says_more vs i v elements now more within is pushed says so_far rest are =
      let split : tables_of (items_view (drop i vs)) ≡ table_of (view v) ++ tables_of (items_view (drop (i + 1) vs)) =
      ap tables_of (items_view-drop vs i v within)
      ∙ ap (λ (w : Value). table_of (view w) ++ tables_of (items_view (drop (i + 1) vs))) (sym is) in
      let many : length now ≡ length elements + length more =
      ap (λ (xs : List A). length xs) pushed ∙ length-append elements more in
      subst (λ (xs : List A). AreSaid Say 0 (tables_of (items_view vs)) xs)
      (sym (ap (λ (xs : List A). xs ++ rest) pushed ∙ append_assoc elements more rest))
      (so_far (more ++ rest)
      (subst (λ (ts : List Members). AreSaid Say (length elements) ts (more ++ rest)) (sym split)
      (said_append (length elements) (table_of (view v)) (tables_of (items_view (drop (i + 1) vs))) more rest says
      (subst (λ (n : ℕ). AreSaid Say n (tables_of (items_view (drop (i + 1) vs))) rest) many are))))

  pub says_all : (vs : List Value) (i : ℕ) (elements : List A) → drop i vs ≡ []
      → ((rest : List A) → AreSaid Say (length elements) (tables_of (items_view (drop i vs))) rest
      → AreSaid Say 0 (tables_of (items_view vs)) (elements ++ rest))
      → AreSaid Say 0 (tables_of (items_view vs)) elements
  says_all vs i elements past all =
      subst (λ (xs : List A). AreSaid Say 0 (tables_of (items_view vs)) xs) (append-nil elements)
      (all [] (subst (λ (ws : List Value). AreSaid Say (length elements) (tables_of (items_view ws)) []) (sym past) tt))

-- of the tables that are left the next one, and those behind it, have what each has
module _ (Has : ℕ → Members → Type 0) (vs : List Value) (i place : ℕ) (v : Value) (within : i < length vs)
    (is : v ≡ get_or vs i v) (each : Each Has place (tables_of (items_view (drop i vs)))) where
  split : Each Has place (table_of (view v) ++ tables_of (items_view (drop (i + 1) vs)))
  split = subst (Each Has place)
      (ap tables_of (items_view-drop vs i v within)
      ∙ ap (λ (w : Value). table_of (view w) ++ tables_of (items_view (drop (i + 1) vs))) (sym is)) each

  pub holds_here : Each Has place (table_of (view v))
  holds_here = each_before Has place (table_of (view v)) (tables_of (items_view (drop (i + 1) vs))) split

  pub holds_behind : (next : ℕ) → next ≡ place + length (table_of (view v))
      → Each Has next (tables_of (items_view (drop (i + 1) vs)))
  holds_behind next at =
      subst (λ (n : ℕ). Each Has n (tables_of (items_view (drop (i + 1) vs)))) (sym at)
      (each_behind Has place (table_of (view v)) (tables_of (items_view (drop (i + 1) vs))) split)

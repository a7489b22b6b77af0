-- Arrays of tables.
use Rattle.std.proofs.Common.{◌≡◌, ℕ, suc, Bool, true, cond, List, [], ◌∷◌, ◌++◌, length}
use Rattle.std.proofs.Common.{Option, Some, None, refl, ap, sym, ◌∙◌}
use Rattle.read_toml.specs.Document.{Fault, range, is_count, count_of, elements_faults, array_faults}
use Rattle.read_toml.specs.Document.{tables}
use Rattle.toml.specs.Data.{Data, string, integer, float, boolean, datetime, array, table, as_array, Items, Members}
use Rattle.toml.specs.Data.{get_member}
use Rattle.toml.specs.View.{items_view}
use Rattle.toml.specs.declared.value.Value.{Value}

pub array_from : (d : Data) (items : Items) → as_array d ≡ Some items → d ≡ array items
array_from (string s) items e = cc
array_from (integer z) items e = cc
array_from (float x) items e = cc
array_from (boolean b) items e = cc
array_from (datetime dt) items e = cc
array_from (array ds) items e = ap array (go e)
  where
    go : Some ds ≡ Some items → ds ≡ items
    go h = cc
array_from (table ms) items e = cc

pub count_seen : (vs : List Value) → count_of (items_view vs) ≡ length vs
count_seen [] = refl
count_seen (v ∷ vs) = ap suc (count_seen vs)

-- the faults of an array of tables: whether it has too few or too many, else those of its elements
pub tables_are : (low : ℕ) (high : Option ℕ) (check : ℕ → List ℕ → Members → List Fault) (at key : List ℕ)
    (fields : Members) (d : Data) (vs : List Value) (fits : Bool)
    → Some d ≡ get_member key fields → Some (items_view vs) ≡ as_array d → fits ≡ is_count low high (length vs)
    → tables low high check at key fields
    ≡ cond fits (elements_faults check (at ++ key) 1 (items_view vs)) (range (at ++ key) ∷ [])
tables_are low high check at key fields d vs fits has is_array is =
    ap (λ (found : Option Data). elim found [ None ↦ [] | Some value ↦ array_faults low high check (at ++ key) value ])
    (sym has)
    ∙ ap (array_faults low high check (at ++ key)) (array_from d (items_view vs) (sym is_array))
    ∙ ap (λ (n : ℕ). cond (is_count low high n) (elements_faults check (at ++ key) 1 (items_view vs))
    (range (at ++ key) ∷ [])) (count_seen vs)
    ∙ ap (λ (b : Bool). cond b (elements_faults check (at ++ key) 1 (items_view vs)) (range (at ++ key) ∷ [])) (sym is)

-- those of an array of as many tables as there may be are those of its elements
pub tables_read : (low : ℕ) (high : Option ℕ) (check : ℕ → List ℕ → Members → List Fault) (at key : List ℕ)
    (fields : Members) (d : Data) (vs vs' : List Value) (path : List ℕ) (fits : Bool)
    → Some d ≡ get_member key fields → Some (items_view vs) ≡ as_array d → fits ≡ is_count low high (length vs)
    → fits ≡ true → path ≡ at ++ key → vs' ≡ vs
    → tables low high check at key fields ≡ elements_faults check path 1 (items_view vs')
tables_read low high check at key fields d vs vs' path fits has is_array is fine same same_items =
    tables_are low high check at key fields d vs fits has is_array is
    ∙ ap (λ (b : Bool). cond b (elements_faults check (at ++ key) 1 (items_view vs)) (range (at ++ key) ∷ [])) fine
    ∙ ap (λ (p : List ℕ). elements_faults check p 1 (items_view vs)) (sym same)
    ∙ ap (λ (ws : List Value). elements_faults check path 1 (items_view ws)) (sym same_items)

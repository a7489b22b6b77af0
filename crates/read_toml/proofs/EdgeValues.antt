-- Values that are to be edges, from a place on.
use Rattle.std.proofs.Common.{◌≡◌, ℕ, ◌+◌, ◌<◌, Bool, true, cond, List, ◌∷◌, ◌++◌, length, get_or, drop, Some, refl, ap, []}
use Rattle.std.proofs.Common.{sym, ◌∙◌, arith}
use Rattle.std.specs.Prelude.{codes, decimal}
use Rattle.base_words.specs.Location.{is_location}
use Rattle.read_toml.specs.Document.{range, number_faults, at_key, is_count}
use Rattle.read_toml.specs.LongMarks.{edge_value_faults, edges_faults, listed_edge_faults}
use Rattle.read_toml.proofs.Added.{key_some}
use Rattle.read_toml.proofs.TablesFaults.{array_from, count_seen}
use Rattle.toml.proofs.Views.{items_view-drop}
use Rattle.toml.specs.Data.{Data, array, as_array, Members, get_member}
use Rattle.toml.specs.View.{view, items_view}
use Rattle.toml.specs.declared.value.Value.{Value}

-- an array of other than two values is out of range
other_count : (path : List ℕ) (vs : List Value) → (length vs ≡ 2 → ⊥)
    → edge_value_faults path (array (items_view vs)) ≡ range path ∷ []
other_count path [] other = refl
other_count path (a ∷ []) other = refl
other_count path (a ∷ b ∷ []) other = absurd (other refl)
other_count path (a ∷ b ∷ c ∷ more) other = refl

pub edge_value_range : (path : List ℕ) (d : Data) (vs : List Value) → Some (items_view vs) ≡ as_array d
    → (length vs ≡ 2 → ⊥) → edge_value_faults path d ≡ range path ∷ []
edge_value_range path d vs is_array other =
    ap (edge_value_faults path) (array_from d (items_view vs) (sym is_array)) ∙ other_count path vs other

-- the faults of an array of two are those of both
two : (path : List ℕ) (vs : List Value) (from onto : Value) → length vs ≡ 2 → from ≡ get_or vs 0 from
    → onto ≡ get_or vs 1 onto
    → edge_value_faults path (array (items_view vs)) ≡ number_faults (path ++ codes ".1") is_location (view from)
    ++ number_faults (path ++ codes ".2") is_location (view onto)
two path [] from onto many is_from is_onto = absurd (omega (arith, many))
two path (a ∷ []) from onto many is_from is_onto = absurd (omega (arith, many))
two path (a ∷ b ∷ []) from onto many is_from is_onto =
    ap (λ (v : Value). number_faults (path ++ codes ".1") is_location (view v)
    ++ number_faults (path ++ codes ".2") is_location (view b)) (sym is_from)
    ∙ ap (λ (v : Value). number_faults (path ++ codes ".1") is_location (view from)
    ++ number_faults (path ++ codes ".2") is_location (view v)) (sym is_onto)
two path (a ∷ b ∷ c ∷ more) from onto many is_from is_onto = absurd (omega (arith, many))

pub edge_value_two : (path : List ℕ) (d : Data) (vs : List Value) (from onto : Value) → Some (items_view vs) ≡ as_array d
    → length vs ≡ 2 → from ≡ get_or vs 0 from → onto ≡ get_or vs 1 onto
    → edge_value_faults path d ≡ number_faults (path ++ codes ".1") is_location (view from)
    ++ number_faults (path ++ codes ".2") is_location (view onto)
edge_value_two path d vs from onto is_array many is_from is_onto =
    ap (edge_value_faults path) (array_from d (items_view vs) (sym is_array)) ∙ two path vs from onto many is_from is_onto

-- the faults of the value at a place, and of those behind it
pub edges_left : (path : List ℕ) (vs : List Value) (place : ℕ) (v : Value) → place < length vs → v ≡ get_or vs place v
    → listed_edge_faults path (place + 1) (items_view (drop place vs))
    ≡ edge_value_faults (path ++ codes "." ++ decimal (place + 1)) (view v)
    ++ listed_edge_faults path (place + 1 + 1) (items_view (drop (place + 1) vs))
edges_left path vs place v within is =
    ap (listed_edge_faults path (place + 1)) (items_view-drop vs place v within)
    ∙ ap (λ (w : Value). edge_value_faults (path ++ codes "." ++ decimal (place + 1)) (view w)
    ++ listed_edge_faults path (place + 1 + 1) (items_view (drop (place + 1) vs))) (sym is)

-- the faults of an array of edges: whether it has none or too many, else those of its elements
pub edges_are : (at key : List ℕ) (fields : Members) (d : Data) (vs : List Value) (fits : Bool)
    → Some d ≡ get_member key fields → Some (items_view vs) ≡ as_array d → fits ≡ is_count 1 (Some 64) (length vs)
    → at_key edges_faults at key fields
    ≡ cond fits (listed_edge_faults (at ++ key) 1 (items_view vs)) (range (at ++ key) ∷ [])
edges_are at key fields d vs fits has is_array is =
    key_some edges_faults at key fields d has
    ∙ ap (edges_faults (at ++ key)) (array_from d (items_view vs) (sym is_array))
    ∙ ap (λ (n : ℕ). cond (is_count 1 (Some 64) n) (listed_edge_faults (at ++ key) 1 (items_view vs))
    (range (at ++ key) ∷ [])) (count_seen vs)
    ∙ ap (λ (b : Bool). cond b (listed_edge_faults (at ++ key) 1 (items_view vs)) (range (at ++ key) ∷ [])) (sym is)

pub edges_read : (at key : List ℕ) (fields : Members) (d : Data) (vs vs' : List Value) (path : List ℕ) (fits : Bool)
    → Some d ≡ get_member key fields → Some (items_view vs) ≡ as_array d → fits ≡ is_count 1 (Some 64) (length vs)
    → fits ≡ true → path ≡ at ++ key → vs' ≡ vs
    → at_key edges_faults at key fields ≡ listed_edge_faults path 1 (items_view vs')
edges_read at key fields d vs vs' path fits has is_array is fine same same_items =
    edges_are at key fields d vs fits has is_array is
    ∙ ap (λ (b : Bool). cond b (listed_edge_faults (at ++ key) 1 (items_view vs)) (range (at ++ key) ∷ [])) fine
    ∙ ap (λ (p : List ℕ). listed_edge_faults p 1 (items_view vs)) (sym same)
    ∙ ap (λ (ws : List Value). listed_edge_faults path 1 (items_view ws)) (sym same_items)

-- The names that elements say, from a place on.
use Rattle.std.proofs.Common.{◌≡◌, ℕ, zero, suc, ◌<◌, Bool, true, List, ◌∷◌, length, get_or, take, []}
use Rattle.std.proofs.Common.{Option, Some, None, refl, ap, sym, ◌∙◌, inl, inr, arith}
use Rattle.std.specs.Prelude.{slice_get, min}
use Rattle.std.proofs.Math.Nat.{min-eq_left, min_comm}
use Rattle.std.proofs.lemmas.Bool.{cases_lt}
use Rattle.std.proofs.lemmas.List.{take_all}
use Rattle.std.proofs.lemmas.Map.Text.{is_eq-slice_cmp}
use Rattle.std.proofs.lemmas.Slice.Eq.{bytes_eq-Decides}
use Rattle.read_toml.specs.LongMarks.{is_name_of, name_said, names_said}
use Rattle.toml.specs.Data.{Data, Items, no_items, item}
use Rattle.toml.specs.View.{view, items_view}
use Rattle.toml.specs.declared.value.Value.{Value}

-- the name that an element says is this one
pub is_that : (name : List ℕ) (said : Option (List ℕ)) → is_name_of name said ≡ true → said ≡ Some name
is_that name None is = cc
is_that name (Some one) is =
    ap (λ (text : List ℕ). Some text) ((bytes_eq-Decides one name).0 (sym (is_eq-slice_cmp one name) ∙ is))

names_at : (vs : List Value) (place : ℕ) (d : Value) → place < length vs
    → slice_get (names_said (items_view vs)) place ≡ Some (name_said (view (get_or vs place d)))
names_at [] place d within = absurd (omega (arith, within))
names_at (v ∷ vs) zero d within = refl
names_at (v ∷ vs) (suc place) d within = names_at vs place d (omega (arith, within))

pub named_there : (vs : List Value) (place : ℕ) (v : Value) (name : List ℕ) (says : Bool) → place < length vs
    → v ≡ get_or vs place v → says ≡ is_name_of name (name_said (view v)) → says ≡ true
    → slice_get (names_said (items_view vs)) place ≡ Some (Some name)
named_there vs place v name says within is same holds =
    names_at vs place v within
    ∙ ap (λ (one : Value). Some (name_said (view one))) (sym is)
    ∙ ap (λ (said : Option (List ℕ)). Some said) (is_that name (name_said (view v)) (sym same ∙ holds))

-- what elements say, one after the other, of the first of them, as many as there are
module _ {A : Type 0} (says : Data → A) (all : Items → List A) (none : all no_items ≡ [])
    (one : (value : Data) (items : Items) → all (item value items) ≡ says value ∷ all items) where
  said_length : (vs : List Value) → length (all (items_view vs)) ≡ length vs
  said_length [] = ap (λ (xs : List A). length xs) none
  said_length (v ∷ vs) =
      ap (λ (xs : List A). length xs) (one (view v) (items_view vs)) ∙ ap suc (said_length vs)

  said_take : (count : ℕ) (vs : List Value) → all (items_view (take count vs)) ≡ take count (all (items_view vs))
  said_take zero vs = none
  said_take (suc count) [] = none ∙ ap (λ (xs : List A). take (suc count) xs) (sym none)
  said_take (suc count) (v ∷ vs) =
      one (view v) (items_view (take count vs))
      ∙ ap (λ (xs : List A). says (view v) ∷ xs) (said_take count vs)
      ∙ ap (λ (xs : List A). take (suc count) xs) (sym (one (view v) (items_view vs)))

  pub said_first : (count least : ℕ) (vs : List Value) → least ≡ min count (length vs)
      → all (items_view (take least vs)) ≡ take count (all (items_view vs))
  said_first count least vs is = elim (cases_lt count (length vs)) [
    | inl below ↦ ap (λ (n : ℕ). all (items_view (take n vs))) (is ∙ min-eq_left (omega (arith, below)))
        ∙ said_take count vs
    | inr past ↦
        let whole : least ≡ length vs = is ∙ min_comm count (length vs) ∙ min-eq_left past in
        ap (λ (n : ℕ). all (items_view (take n vs))) whole
        ∙ ap (λ (ws : List Value). all (items_view ws)) (take_all (length vs) vs (omega arith))
        ∙ sym (take_all count (all (items_view vs)) (omega (arith, said_length vs, past)))
  ]

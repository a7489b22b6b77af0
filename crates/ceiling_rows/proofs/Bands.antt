-- What stands at numbers, by bands of fifty, and what is left when it is taken away.
use Rattle.std.proofs.Common.{◌≡◌, ℕ, ◌/◌, ◌<◌, Bool, true, false, List, length, get_or, set, Option, Some, None, ap, sym, ◌∙◌, eqb}
use Rattle.std.proofs.Common.{refl, ◌+◌, ◌*◌, ◌≤◌, arith}
use Rattle.std.specs.Prelude.{slice_get, All}
use Rattle.std.proofs.lemmas.Bool.{eqb-true, eqb-false}
use Rattle.std.proofs.lemmas.Option.{slice_get-get_or}
use Rattle.read_decks.proofs.Puts.{slice_get-set_other, slice_get-set_same}
use Rattle.ceiling_rows.specs.Bands.{AreInBands}

-- Where a band isn't marked, nothing stands at its numbers.
pub none_in : {X : Type 0} (all : List (Option X)) (bands : List Bool) (band k : ℕ) (x : X) → AreInBands all bands
    → slice_get bands band ≡ Some false → band * 50 ≤ k → k < band * 50 + 50 → slice_get all k ≡ Some (Some x) → ⊥
none_in all bands band k x are off low high at =
    let same : k / 50 ≡ band = omega (arith, low, high) in
    let both : Some false ≡ Some true = sym off ∙ ap (slice_get bands) (sym same) ∙ are k x at in
    absurd (cc)

-- What stands after a number was emptied stood there before, at another one;
pub emptied : {X : Type 0} (all : List (Option X)) (i k : ℕ) (x : X) → i < length all
    → slice_get (set all i None) k ≡ Some (Some x) → (i ≡ k → ⊥) × (slice_get all k ≡ Some (Some x))
emptied all i k x within at = go (eqb i k) refl
  where
    go : (same : Bool) → eqb i k ≡ same → (i ≡ k → ⊥) × (slice_get all k ≡ Some (Some x))
    go true is =
        let none : slice_get (set all i None) k ≡ Some None =
        ap (slice_get (set all i None)) (sym (eqb-true i k is)) ∙ slice_get-set_same all i None within in
        let both : Some None ≡ Some (Some x) = sym none ∙ at in
        absurd (cc)
    go false is = (eqb-false i k is, sym (slice_get-set_other all i k None (eqb-false i k is)) ∙ at)

-- and where nothing stands at any number, each has none.
pub none_left : {X : Type 0} (all : List (Option X)) → ((k : ℕ) (x : X) → slice_get all k ≡ Some (Some x) → ⊥)
    → All (λ one. one ≡ None) all
none_left {X} all none k d within = go (get_or all k d) refl
  where
    go : (got : Option X) → get_or all k d ≡ got → get_or all k d ≡ None
    go None is = is
    go (Some x) is = absurd (none k x (slice_get-get_or all k d within ∙ ap Some is))

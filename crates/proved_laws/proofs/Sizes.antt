-- A size that is told is too large where the size is, and the notes are short.
use Rattle.std.proofs.Common.{◌≡◌, ℕ, ◌<◌, ◌≤◌, Bool, true, false, cond, List, [], ◌∷◌, ap, inl, inr, refl, sym, ◌∙◌, arith}
use Rattle.std.specs.Prelude.{nat_le, nat_lt, ◌==◌, ◌&&◌, IsTrue, length}
use Rattle.std.specs.List.{list_all}
use Rattle.std.proofs.lemmas.Bool.{cases_lt, lt-ltb, le-ltb}
use Rattle.std.proofs.lemmas.Bool.Decides.{Decides-eqb}
use Rattle.base_notes.specs.Allowed.{Notes}
use Rattle.base_notes.specs.declared.notes.call.Call.{Call}
use Rattle.base_notes.specs.Short.{is_plain, is_short}
use Rattle.flow_graph.specs.Accepted.{capped}
use Rattle.check_findings.specs.Finding.{Finding, too_large}
use Rattle.check_findings.specs.FoundAt.{too_many}

-- no size is told of long notes, nor one that is small
pub long_untold : (notes : Notes) (product : ℕ) → ¬ IsTrue (is_short notes) → too_many notes product ≡ []
long_untold notes product long = go (is_short notes) long
  where
    go : (b : Bool) → ¬ IsTrue b → cond (b && nat_lt 4000000 product) (too_large (capped product) ∷ []) [] ≡ []
    go true not = absurd (not refl)
    go false not = refl

pub small_untold : (notes : Notes) (product : ℕ) → product ≤ 4000000 → too_many notes product ≡ []
small_untold notes product small = go (is_short notes) (nat_lt 4000000 product) (le-ltb 4000000 product small)
  where
    go : (a b : Bool) → b ≡ false → cond (a && b) (too_large (capped product) ∷ []) [] ≡ []
    go true b e = ap (λ (c : Bool). cond c (too_large (capped product) ∷ []) []) e
    go false b e = refl

-- of short notes a large one is
pub large_told : (notes : Notes) (product : ℕ) → is_short notes ≡ true → 4000000 < product
    → too_many notes product ≡ too_large (capped product) ∷ []
large_told notes product short large =
    ap (λ (b : Bool). cond (b && nat_lt 4000000 product) (too_large (capped product) ∷ []) []) short
    ∙ ap (λ (b : Bool). cond b (too_large (capped product) ∷ []) []) (lt-ltb 4000000 product large)

-- so where none is told it is small
pub told_small : (notes : Notes) (product : ℕ) → is_short notes ≡ true → too_many notes product ≡ []
    → product ≤ 4000000
told_small notes product short none = elim (cases_lt 4000000 product) [
  | inl large ↦ (let clash : ◌≡◌ {A = List Finding} (too_large (capped product) ∷ []) [] =
      sym (large_told notes product short large) ∙ none in
      cc)
  | inr small ↦ small
]

-- short notes have no calls
pub short_plain : (notes : Notes) → is_short notes ≡ true → notes.calls ≡ []
short_plain notes short =
    empty notes.calls
    ((Decides-eqb (length notes.calls) 0).0
    (behind (nat_le (length notes.marks) 8 && list_all is_plain notes.marks) (length notes.calls == 0) short))
  where
    behind : (a b : Bool) → (a && b) ≡ true → b ≡ true
    behind true b e = e
    behind false b e = cc

    empty : (calls : List Call) → length calls ≡ 0 → calls ≡ []
    empty [] none = refl
    empty (call ∷ calls) none = absurd (omega (arith, none))

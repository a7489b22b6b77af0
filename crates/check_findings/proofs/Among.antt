-- Whether a number is among others, as the code asks for it.
use Rattle.std.proofs.Common.{◌≡◌, ℕ, Bool, true, false, List, [], refl, sym, inl, inr}
use Rattle.std.specs.Prelude.{Contains}
use Rattle.base_graphs.proofs.Lists.{contains_none}
use Rattle.flow_graph.specs.Executed.{with_new}
use Rattle.flow_graph.specs.Taken.{is_among}
use Rattle.flow_graph.proofs.Orders.{any_contains, contains_any, with_new_has, with_new_only}

-- answers that go together are one
one_answer : (a b : Bool) → (a ≡ true → b ≡ true) → (b ≡ true → a ≡ true) → a ≡ b
one_answer true true there back = refl
one_answer true false there back = sym (there refl)
one_answer false true there back = back refl
one_answer false false there back = refl

-- an answer that goes together with that it is among them
pub among_told : (xs : List ℕ) (x : ℕ) (answer : Bool) → (answer ≡ true → Contains xs x) → (Contains xs x → answer ≡ true)
    → answer ≡ is_among xs x
among_told xs x answer there back =
    one_answer answer (is_among xs x) (λ e. contains_any xs x (there e)) (λ e. back (any_contains xs x e))

-- the same among those that were added to none
pub among_new : (xs : List ℕ) (x : ℕ) → is_among (with_new [] xs) x ≡ is_among xs x
among_new xs x =
    one_answer (is_among (with_new [] xs) x) (is_among xs x)
    (λ e. contains_any xs x (elim (with_new_only [] xs x (any_contains (with_new [] xs) x e)) [
      | inl none ↦ absurd (contains_none x none)
      | inr there ↦ there
    ]))
    (λ e. contains_any (with_new [] xs) x (with_new_has [] xs x (any_contains xs x e)))

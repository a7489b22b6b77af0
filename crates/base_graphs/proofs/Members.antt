-- Things without repeats that are all of a list are no more than its members.
use Rattle.std.proofs.Common.{◌≡◌, ◌≤◌, List, [], ◌∷◌, ◌++◌, length, ap, sym, subst, inl, inr, arith}
use Rattle.std.specs.Prelude.{Contains}
use Rattle.std.proofs.lemmas.List.{length-append}
use Rattle.std.proofs.lemmas.List.Elements.{Contains-append_left, Contains-append_right, Contains-append_cases}
use Rattle.base_graphs.specs.Graph.{AreDifferent}
use Rattle.base_graphs.proofs.Lists.{contains_here, contains_there, contains_cases, contains_none}

-- a list with a member, taken apart there
record IsSplit {X : Type 0} (xs : List X) (x : X) : Type 0 where
  before : List X
  behind : List X
  at : xs ≡ before ++ x ∷ behind

split_at : {X : Type 0} (xs : List X) (x : X) → Contains xs x → IsSplit xs x
split_at [] x has = absurd (contains_none x has)
split_at (y ∷ xs) x has = elim (contains_cases y x xs has) [
  | inl same ↦ record { before = []; behind = xs; at = ap (λ first. first ∷ xs) same }
  | inr there ↦ (let rest =
      split_at xs x there in
      record { before = y ∷ rest.before; behind = rest.behind; at = ap (λ more. y ∷ more) rest.at })
]

-- each other member of it is one of the parts
member_of_parts : {X : Type 0} (before behind : List X) (x y : X) → (x ≡ y → ⊥) → Contains (before ++ x ∷ behind) y
    → Contains (before ++ behind) y
member_of_parts before behind x y other has = elim (Contains-append_cases before (x ∷ behind) y has) [
  | inl left ↦ Contains-append_left before behind y left
  | inr right ↦ elim (contains_cases x y behind right)
      [ inl same ↦ absurd (other same) | inr later ↦ Contains-append_right before behind y later ]
]

-- Things without repeats that are all of a list are no more than its members.
pub no_more : {X : Type 0} (xs ys : List X) → AreDifferent xs → ((x : X) → Contains xs x → Contains ys x)
    → length xs ≤ length ys
no_more [] ys different within = omega arith
no_more (x ∷ xs) ys different within =
    let split = split_at ys x (within x (contains_here x xs)) in
    let fewer : length xs ≤ length (split.before ++ split.behind) =
    no_more xs (split.before ++ split.behind) different.1
    (λ y has. member_of_parts split.before split.behind x y
    (λ same. different.0 (subst (λ z. Contains xs z) (sym same) has))
    (subst (λ all. Contains all y) split.at (within y (contains_there x y xs has)))) in
    omega (
      arith,
      fewer,
      ap length split.at,
      length-append split.before split.behind,
      length-append split.before
          (x ∷ split.behind),
    )

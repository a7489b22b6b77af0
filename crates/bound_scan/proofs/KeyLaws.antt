-- Laws of keys.
use Rattle.std.proofs.Common.{◌≡◌, ℕ, zero, suc, ◌+◌, ◌*◌, ◌/◌, ◌%◌, ◌<◌, List, [], ◌∷◌, length, get_or, refl, ap, sym}
use Rattle.std.proofs.Common.{◌∙◌, subst, arith}
use Rattle.std.specs.Prelude.{Contains}
use Rattle.std.proofs.Math.Nat.{div-add-mod, mod-lt, div-lt_iff_lt-mul}
use Rattle.std.proofs.lemmas.List.Elements.{Contains-get_or}
use Rattle.base_notes.specs.declared.notes.mark.Mark.{Mark}
use Rattle.machine_steps.specs.Counts.{AreWithin}
use Rattle.base_graphs.specs.Graph.{AreDifferent}
use Rattle.flow_graph.specs.Accepted.{counts_of}
use Rattle.flow_graph.specs.Passes.{leading}
use Rattle.bound_scan.proofs.DigitsLaws.{leading_digits, digits_within}
use Rattle.bound_scan.specs.Keys.{keys_of, place_at, counts_at, IsKey}

-- where there is a key, there is a place
pub some_places : (marks : List Mark) (order : List ℕ) (key : ℕ) → key < keys_of marks order → 0 < length order
some_places marks order key below = go (length order) refl
  where
    go : (n : ℕ) → length order ≡ n → 0 < length order
    go zero e =
        let none : counts_of marks * length order ≡ counts_of marks * 0 = ap (λ (n : ℕ). counts_of marks * n) e in
        absurd (omega (arith, below, none))
    go (suc n) e = omega (arith, e)

-- the whole part of a key is one of the numbers of counts
pub whole_below : (marks : List Mark) (order : List ℕ) (key : ℕ) → key < keys_of marks order
    → key / length order < counts_of marks
whole_below marks order key below = (div-lt_iff_lt-mul (some_places marks order key below)).1 below

-- the counts of a key are within what the marks allow
pub counts_within : (marks : List Mark) (order : List ℕ) (key : ℕ) → key < keys_of marks order
    → AreWithin marks (counts_at marks order key)
counts_within marks order key below = digits_within marks (key / length order) (whole_below marks order key below)

-- the number of a key's counts is its whole part
pub leading_at : (marks : List Mark) (order : List ℕ) (key : ℕ) → key < keys_of marks order
    → leading marks (counts_at marks order key) ≡ key / length order
leading_at marks order key below = leading_digits marks (key / length order) (whole_below marks order key below)

-- a key's location is one of the order
pub place_there : (marks : List Mark) (order : List ℕ) (key : ℕ) → key < keys_of marks order
    → Contains order (place_at order key)
place_there marks order key below =
    Contains-get_or order (key % length order) 0 (mod-lt key (some_places marks order key below))

-- a list without repeats has a number at one index alone
pub one_index : (xs : List ℕ) (i j : ℕ) → AreDifferent xs → i < length xs → j < length xs
    → get_or xs i 0 ≡ get_or xs j 0 → i ≡ j
one_index [] i j different below before same = absurd (omega (arith, below))
one_index (x ∷ xs) zero zero different below before same = refl
one_index (x ∷ xs) zero (suc j) different below before same =
    absurd (different.0 (subst (λ (y : ℕ). Contains xs y) (sym same) (Contains-get_or xs j 0 (omega (arith, before)))))
one_index (x ∷ xs) (suc i) zero different below before same =
    absurd (different.0 (subst (λ (y : ℕ). Contains xs y) same (Contains-get_or xs i 0 (omega (arith, below)))))
one_index (x ∷ xs) (suc i) (suc j) different below before same =
    ap suc (one_index xs i j different.1 (omega (arith, below)) (omega (arith, before)) same)

-- A location and counts have one key at most.
pub one_key : (marks : List Mark) (order : List ℕ) (place : ℕ) (counts : List ℕ) (a b : ℕ) → AreDifferent order
    → IsKey marks order a place counts → IsKey marks order b place counts → a ≡ b
one_key marks order place counts a b different p q =
    let some : 0 < length order = some_places marks order a p.below in
    let places : a % length order ≡ b % length order =
    one_index order (a % length order) (b % length order) different (mod-lt a some) (mod-lt b some)
    (p.at ∙ sym q.at) in
    let numbers : a / length order ≡ b / length order =
    sym (leading_at marks order a p.below) ∙ ap (leading marks) (p.passed ∙ sym q.passed)
    ∙ leading_at marks order b q.below in
    sym (div-add-mod a (length order))
    ∙ ap (λ (number : ℕ). length order * number + a % length order) numbers
    ∙ ap (λ (rest : ℕ). length order * (b / length order) + rest) places
    ∙ div-add-mod b (length order)

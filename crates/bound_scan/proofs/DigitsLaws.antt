-- Laws of counts read as numbers: each number below how many counts there are stands for one list of counts.
use Rattle.std.proofs.Common.{◌≡◌, ℕ, ◌+◌, ◌*◌, ◌/◌, ◌%◌, ◌<◌, ◌≤◌, List, [], ◌∷◌, None, refl, ap, ◌∙◌}
use Rattle.std.proofs.Common.{arith}
use Rattle.std.proofs.Math.Nat.{mul-le-mul_left}
use Rattle.std.proofs.lemmas.Nat.{div-add-mod', div-mul-add, mod-mul-add, div_below, mod_below, same_from_place}
use Rattle.base_notes.specs.declared.notes.mark.Mark.{Mark}
use Rattle.base_notes.specs.Marks.{mark_on}
use Rattle.machine_steps.specs.Counts.{after_pass, AreWithin}
use Rattle.flow_graph.specs.Accepted.{counts_of}
use Rattle.flow_graph.specs.Passes.{leading, leading-<}
use Rattle.bound_scan.specs.Digits.{digits}
use Rattle.bound_scan.specs.Table.{counts_for, number_of}

-- there is one list of counts at least
pub counts_some : (marks : List Mark) → 1 ≤ counts_of marks
counts_some [] = omega arith
counts_some (mark ∷ marks) = omega (arith, mul-le-mul_left (mark.most + 1) (counts_some marks))

-- a number stands for counts that are within the marks' limits
pub digits_within : (marks : List Mark) (n : ℕ) → n < counts_of marks → AreWithin marks (digits marks n)
digits_within [] n small = tt
digits_within (mark ∷ marks) n small =
    let first : n / counts_of marks < mark.most + 1 =
    div_below n (counts_of marks) (mark.most + 1) (counts_some marks) small in (
      omega (arith, first),
      digits_within marks (n % counts_of marks)
          (mod_below n (counts_of marks) (counts_some marks)),
    )

-- and they are read as it again
pub leading_digits : (marks : List Mark) (n : ℕ) → n < counts_of marks → leading marks (digits marks n) ≡ n
leading_digits [] n small = omega arith
leading_digits (mark ∷ marks) n small =
    ap (λ (m : ℕ). n / counts_of marks * counts_of marks + m)
    (leading_digits marks (n % counts_of marks) (mod_below n (counts_of marks) (counts_some marks)))
    ∙ div-add-mod' n (counts_of marks)

-- counts within the limits are those that their number stands for
pub digits_leading : (marks : List Mark) (counts : List ℕ) → AreWithin marks counts
    → digits marks (leading marks counts) ≡ counts
digits_leading [] [] within = refl
digits_leading [] (count ∷ counts) within = absurd within
digits_leading (mark ∷ marks) [] within = absurd within
digits_leading (mark ∷ marks) (count ∷ counts) within =
    let size = counts_of marks in
    let others = leading marks counts in
    let below : leading marks counts < counts_of marks = leading-< marks counts within.1 in
    ap (λ (first : ℕ). first ∷ digits marks ((count * size + others) % size)) (div-mul-add count size others below)
    ∙ ap (λ (rest : ℕ). count ∷ digits marks rest) (mod-mul-add count size others below)
    ∙ ap (λ (rest : List ℕ). count ∷ rest) (digits_leading marks counts within.1)

-- with the first mark's last, it is one of as many numbers too
pub number_within : (marks : List Mark) (counts : List ℕ) → AreWithin marks counts
    → number_of marks counts < counts_of marks
number_within [] [] within = omega arith
number_within [] (count ∷ counts) within = absurd within
number_within (mark ∷ marks) [] within = absurd within
number_within (mark ∷ marks) (count ∷ counts) within =
    let others : number_of marks counts + 1 ≤ counts_of marks = omega (arith, number_within marks counts within.1) in
    let most : (mark.most + 1) * (number_of marks counts + 1) ≤ (mark.most + 1) * counts_of marks =
    mul-le-mul_left (mark.most + 1) others in
    omega (arith, within.0, most)

-- and no two counts have one number
pub number_injective : (marks : List Mark) (a b : List ℕ) → AreWithin marks a → AreWithin marks b
    → number_of marks a ≡ number_of marks b → a ≡ b
number_injective [] [] [] within_a within_b same = refl
number_injective [] [] (y ∷ b) within_a within_b same = absurd within_b
number_injective [] (x ∷ a) b within_a within_b same = absurd within_a
number_injective (mark ∷ marks) [] b within_a within_b same = absurd within_a
number_injective (mark ∷ marks) (x ∷ a) [] within_a within_b same = absurd within_b
number_injective (mark ∷ marks) (x ∷ a) (y ∷ b) within_a within_b same =
    let many = mark.most + 1 in
    let turned : number_of marks a * (mark.most + 1) + x ≡ number_of marks b * (mark.most + 1) + y =
    omega (arith, same) in
    let parts = same_from_place (number_of marks a) x (number_of marks b) y many (omega (arith, within_a.0))
    (omega (arith, within_b.0)) turned in
    let firsts : x ≡ y = parts.1 in
    let others : a ≡ b = number_injective marks a b within_a.1 within_b.1 parts.0 in
    ap (λ (first : ℕ). first ∷ a) firsts ∙ ap (λ (rest : List ℕ). y ∷ rest) others

-- counts within the limits are those that this number stands for
pub counts_for_number : (marks : List Mark) (counts : List ℕ) → AreWithin marks counts
    → counts_for marks (number_of marks counts) ≡ counts
counts_for_number [] [] within = refl
counts_for_number [] (count ∷ counts) within = absurd within
counts_for_number (mark ∷ marks) [] within = absurd within
counts_for_number (mark ∷ marks) (count ∷ counts) within =
    let many = mark.most + 1 in
    let others = number_of marks counts in
    let turned : count + many * others ≡ others * many + count = omega arith in
    let below : count < many = omega (arith, within.0) in
    ap (λ (n : ℕ). n % many ∷ counts_for marks (n / many)) turned
    ∙ ap (λ (first : ℕ). first ∷ counts_for marks ((others * many + count) / many))
    (mod-mul-add others many count below)
    ∙ ap (λ (n : ℕ). count ∷ counts_for marks n) (div-mul-add others many count below)
    ∙ ap (λ (rest : List ℕ). count ∷ rest) (counts_for_number marks counts within.1)

-- a hop along an edge that no mark stands on changes no count
pub unmarked_stays : (marks : List Mark) (from onto : ℕ) (counts : List ℕ) → mark_on marks from onto ≡ None
    → after_pass marks from onto counts ≡ counts
unmarked_stays marks from onto counts unmarked = rw (unmarked, after_pass) refl

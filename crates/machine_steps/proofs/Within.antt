-- Counts after a pass, and how often marks may be passed.
use Rattle.std.proofs.Common.{◌≡◌, ℕ, zero, suc, ◌+◌, ◌≤◌, ◌<◌, Bool, true, false, List, [], ◌∷◌, length, replicate, take, get_or}
use Rattle.std.proofs.Common.{Option, Some, None, refl, subst, sym, ap, eq-eqb, arith}
use Rattle.std.specs.Prelude.{◌==◌, if◌then◌else◌, MatchOption}
use Rattle.std.proofs.lemmas.Bool.{eqb-true}
use Rattle.std.proofs.lemmas.List.{get_or_read, get_or-take}
use Rattle.base_notes.specs.declared.notes.mark.Mark.{Mark}
use Rattle.base_notes.specs.Marks.{mark_on}
use Rattle.machine_steps.specs.declared.counts.Counts.{Counts}
use Rattle.machine_steps.specs.CountsIn.{counts_in}
use Rattle.machine_steps.specs.Counts.{is_inside, no_counts, passed_from, after_pass, AreWithin}

-- a pass of the mark on the edge
pub counts_passed : (marks : List Mark) (from onto passed : ℕ) (counts : List ℕ) → Some passed ≡ mark_on marks from onto
    → after_pass marks from onto counts ≡ passed_from marks passed 0 counts
counts_passed marks from onto passed counts is =
    subst (λ (o : Option ℕ). (elim o as (λ _. List ℕ) [ None ↦ counts | Some p ↦ passed_from marks p 0 counts ])
    ≡ passed_from marks passed 0 counts) is refl

one_within : (here inside : Bool) (count most : ℕ) → count ≤ most → (here ≡ true → count < most)
    → (if here then count + 1 else (if inside then 0 else count)) ≤ most
one_within true inside count most within room = omega (arith, room refl)
one_within false true count most within room = omega arith
one_within false false count most within room = within

-- where the passed mark has room for one more, all stay within their limits
within_most : (all : List Mark) (passed place : ℕ) (marks : List Mark) (counts : List ℕ) → AreWithin marks counts
    → ((k : ℕ) (d : Mark) → place + k ≡ passed → k < length marks → get_or counts k 0 < (get_or marks k d).most)
    → AreWithin marks (passed_from all passed place counts)
within_most all passed place [] [] within room = tt
within_most all passed place [] (count ∷ counts) within room = within
within_most all passed place (mark ∷ marks) [] within room = within
within_most all passed place (mark ∷ marks) (count ∷ counts) within room = (
  one_within (place == passed) (is_inside all place passed) count mark.most within.0
      (λ here. room 0 mark (omega (arith, eqb-true place passed here)) (omega arith)),
  within_most all passed (place + 1) marks counts within.1
      (λ k d at inside. room (suc k) d (omega (arith, at)) (omega arith)),
)

one_over : (here inside : Bool) (count most : ℕ) → here ≡ true → most ≤ count
    → ¬ ((if here then count + 1 else (if inside then 0 else count)) ≤ most)
one_over true inside count most is over = λ within. omega arith
one_over false inside count most is over = λ within. absurd (cc)

-- where it has none, it doesn't
over_most : (all : List Mark) (passed place : ℕ) (marks : List Mark) (counts : List ℕ) (k : ℕ) (d : Mark)
    → place + k ≡ passed → k < length marks → (get_or marks k d).most ≤ get_or counts k 0
    → ¬ AreWithin marks (passed_from all passed place counts)
over_most all passed place [] counts k d at inside over within = absurd (omega arith)
over_most all passed place (mark ∷ marks) [] k d at inside over within = within
over_most all passed place (mark ∷ marks) (count ∷ counts) zero d at inside over within =
    one_over (place == passed) (is_inside all place passed) count mark.most (eq-eqb place passed (omega arith)) over
    within.0
over_most all passed place (mark ∷ marks) (count ∷ counts) (suc k) d at inside over within =
    over_most all passed (place + 1) marks counts k d (omega arith) (omega arith) over within.1

-- the same of counts of which only as many as there are marks mean anything
pub too_often : (marks : List Mark) (counts : List ℕ) (passed : ℕ) (mark : Mark) → passed < length marks
    → mark ≡ get_or marks passed mark → mark.most ≤ get_or counts passed 0
    → ¬ AreWithin marks (passed_from marks passed 0 (take (length marks) counts))
too_often marks counts passed mark inside is over =
    let size = length marks in
    let count : get_or (take (length marks) counts) passed 0 ≡ get_or counts passed 0 =
    get_or-take (length marks) counts passed 0 inside in
    let most : mark.most ≡ (get_or marks passed mark).most = ap (λ (m : Mark). m.most) is in
    over_most marks passed 0 marks (take size counts) passed mark (omega arith) inside (omega (arith, count, most))

pub within_after : (marks : List Mark) (counts : List ℕ) (passed : ℕ) (mark : Mark) → passed < length marks
    → mark ≡ get_or marks passed mark → get_or counts passed 0 < mark.most
    → AreWithin marks (take (length marks) counts)
    → AreWithin marks (passed_from marks passed 0 (take (length marks) counts))
within_after marks counts passed mark inside is room within =
    let size = length marks in
    let most_at : (d : Mark) → mark ≡ get_or marks passed d = get_or_read marks passed mark inside is in
    let count : get_or (take (length marks) counts) passed 0 ≡ get_or counts passed 0 =
    get_or-take (length marks) counts passed 0 inside in
    let roomy : (k : ℕ) (d : Mark) → 0 + k ≡ passed → k < length marks
    → get_or (take (length marks) counts) k 0 < (get_or marks k d).most =
    λ k d at below.
    let same : k ≡ passed = omega arith in
    subst (λ (j : ℕ). get_or (take (length marks) counts) j 0 < (get_or marks j d).most) (sym same)
    (omega (arith, count, ap (λ (m : Mark). m.most) (most_at d))) in
    within_most marks passed 0 marks (take size counts) within roomy

-- what is so of a pass of the mark on an edge is so of the step along it
pub along : (marks : List Mark) (from onto passed : ℕ) (counts : List ℕ) (result : Option Counts)
    → Some passed ≡ mark_on marks from onto
    → MatchOption result (¬ AreWithin marks (passed_from marks passed 0 counts))
    (λ after. counts_in after marks ≡ passed_from marks passed 0 counts)
    → MatchOption result (¬ AreWithin marks (after_pass marks from onto counts))
    (λ after. counts_in after marks ≡ after_pass marks from onto counts)
along marks from onto passed counts result found right =
    subst (λ (after : List ℕ). MatchOption result (¬ AreWithin marks after) (λ held. counts_in held marks ≡ after))
    (sym (counts_passed marks from onto passed counts found)) right

-- no pass is counted at first
pub zeros : (marks : List Mark) (most : ℕ) → length marks ≤ most
    → take (length marks) (replicate most 0) ≡ no_counts marks
zeros [] most few = refl
zeros (mark ∷ marks) zero few = absurd (omega arith)
zeros (mark ∷ marks) (suc most) few = ap (λ (counts : List ℕ). 0 ∷ counts) (zeros marks most (omega arith))

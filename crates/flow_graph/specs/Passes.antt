-- A law of counts: a pass raises them, read as one number with the first mark's leading.
use Rattle.std.proofs.Common.{◌≡◌, ℕ, suc, ◌+◌, ◌*◌, ◌<◌, ◌≤◌, Bool, true, false, cond, List, []}
use Rattle.std.proofs.Common.{◌∷◌, length, Some, inl, inr, arith}
use Rattle.std.proofs.Math.Nat.{mul-le-mul_left}
use Rattle.std.proofs.lemmas.Bool.{cases_lt, false_from_ne_true, eq-eqb}
use borrow.Author.Tests.{ne_eqb}
use Rattle.base_notes.specs.declared.notes.mark.Mark.{Mark}
use Rattle.base_notes.specs.Allowed.{StandInEarlier}
use Rattle.base_notes.specs.Marks.{mark_from, mark_on, is_on}
use Rattle.machine_steps.proofs.SinceLaws.{leads_earlier, leads_from_inside}
use Rattle.machine_steps.specs.Counts.{is_inside, passed_from, after_pass, AreWithin}
use Rattle.flow_graph.specs.Accepted.{counts_of}

-- counts as one number, with the first mark's leading
abbrev pub leading : List Mark → List ℕ → ℕ
leading [] counts = 0
leading (mark ∷ marks) [] = 0
leading (mark ∷ marks) (count ∷ counts) = count * counts_of marks + leading marks counts

-- it is one of as many numbers as there are counts
pub leading-< : (marks : List Mark) (counts : List ℕ) → AreWithin marks counts
    → leading marks counts < counts_of marks
leading-< [] [] within = omega arith
leading-< [] (count ∷ counts) within = absurd within
leading-< (mark ∷ marks) [] within = absurd within
leading-< (mark ∷ marks) (count ∷ counts) within =
    let others : leading marks counts < counts_of marks = leading-< marks counts within.1 in
    let most : counts_of marks * count ≤ counts_of marks * mark.most =
    mul-le-mul_left (counts_of marks) within.0 in
    omega (arith, others, most)

-- a mark that another stands inside of stands before it
outer_is_earlier : (marks : List Mark) → StandInEarlier 0 marks → (inner outer : ℕ)
    → is_inside marks inner outer ≡ true → outer < inner
outer_is_earlier marks nested inner outer e =
    let leads = leads_from_inside (length marks) marks inner outer e in
    leads_earlier marks nested leads.0 inner outer leads.1

-- the mark that is found is one of these
pub found_within : (place : ℕ) (marks : List Mark) (from onto k : ℕ)
    → mark_from place marks from onto ≡ Some k → (place ≤ k) × (k < place + length marks)
found_within place [] from onto k e = cc
found_within place (mark ∷ marks) from onto k e =
    go (is_on mark from onto) e (found_within (place + 1) marks from onto k)
  where
    go : (here : Bool) → cond here (Some place) (mark_from (place + 1) marks from onto) ≡ Some k
        → (mark_from (place + 1) marks from onto ≡ Some k → (place + 1 ≤ k)
        × (k < place + 1 + length marks)) → (place ≤ k) × (k < place + suc (length marks))
    go true h further = let at : place ≡ k = cc in (omega (arith, at), omega (arith, at))
    go false h further = let there = further h in (omega (arith, there.0), omega (arith, there.1))

raises_from : (all : List Mark) (k place : ℕ) (marks : List Mark) (counts : List ℕ)
    → ((inner : ℕ) → is_inside all inner k ≡ true → k < inner)
    → AreWithin marks counts → place ≤ k → k < place + length marks
    → leading marks counts < leading marks (passed_from all k place counts)
raises_from all k place [] counts later within low high = absurd (omega arith)
raises_from all k place (mark ∷ marks) [] later within low high = absurd within
raises_from all k place (mark ∷ marks) (count ∷ counts) later within low high =
    elim (cases_lt place k) [
      | inl before ↦
          let other : place ≡ k → ⊥ = λ e. omega arith in
          let outside : is_inside all place k ≡ false =
          false_from_ne_true (is_inside all place k) (λ h. omega (arith, later place h)) in
          let rest = raises_from all k (place + 1) marks counts later within.1 (omega arith)
          (omega arith) in
          rw (ne_eqb place k other, outside) (omega (arith, rest))
      | inr past ↦
          let here : place ≡ k = omega arith in
          rw (eq-eqb place k here) (omega (arith, leading-< marks counts within.1))
    ]

-- A pass raises the counts.
pub pass_raises : (marks : List Mark) (counts : List ℕ) (from onto k : ℕ) → StandInEarlier 0 marks
    → AreWithin marks counts → mark_on marks from onto ≡ Some k
    → leading marks counts < leading marks (after_pass marks from onto counts)
pass_raises marks counts from onto k nested within e =
    let found = found_within 0 marks from onto k e in
    let raised = raises_from marks k 0 marks counts
    (λ inner. outer_is_earlier marks nested inner k) within found.0 found.1 in
    rw (e, after_pass) raised

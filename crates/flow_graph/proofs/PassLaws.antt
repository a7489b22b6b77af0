-- How often a walk passes a mark: counts stand for a number of passes, which a pass of the mark
-- raises by one and no other pass lowers, and which is never more than the most.
use Rattle.std.proofs.Common.{◌≡◌, ◌≢◌, ℕ, ◌+◌, ◌*◌, ◌<◌, ◌≤◌, Bool, true, false, List, [], ◌∷◌, ◌++◌, length}
use Rattle.std.proofs.Common.{refl, ap, sym, ◌∙◌, inl, inr, arith}
use Rattle.std.specs.Prelude.{◌==◌, if◌then◌else◌}
use Rattle.std.proofs.Math.Nat.{mul-le-mul_left}
use Rattle.std.proofs.lemmas.Bool.{cases_lt, eq-eqb, eqb-true, false_from_ne_true, false≢true, ne_eqb}
use Rattle.base_notes.specs.declared.notes.mark.Mark.{Mark}
use Rattle.base_notes.specs.Allowed.{StandInEarlier}
use Rattle.machine_steps.proofs.SinceLaws.{inside_iff, leads_earlier}
use Rattle.machine_steps.specs.Counts.{AreWithin, is_inside, no_counts, passed_from}
use Rattle.machine_steps.specs.Since.{LeadsOut}
use Rattle.flow_graph.specs.MostPasses.{passes_from}

-- nothing passed is within what the marks allow
pub no_counts_within : (marks : List Mark) → AreWithin marks (no_counts marks)
no_counts_within [] = tt
no_counts_within (mark ∷ marks) = (omega arith, no_counts_within marks)

-- Marks that lead out from one to a second, and from there to a third, lead out from the one to the third.
leads_on : (marks : List Mark) (through further : List ℕ) (inner middle outer : ℕ) → LeadsOut marks inner through middle
    → LeadsOut marks middle further outer → LeadsOut marks inner (through ++ middle ∷ further) outer
leads_on marks [] further inner middle outer one other = (one, other)
leads_on marks (next ∷ nexts) further inner middle outer one other =
    (one.0, leads_on marks nexts further next middle outer one.1 other)

module _ (all : List Mark) (nested : StandInEarlier 0 all) where
  -- what stands inside of a mark that stands inside of another stands inside of that
  inside_through : (inner middle outer : ℕ) → is_inside all inner middle ≡ true → is_inside all middle outer ≡ true
      → is_inside all inner outer ≡ true
  inside_through inner middle outer one other =
      let first = (inside_iff all inner middle nested).0 one in
      let second = (inside_iff all middle outer nested).0 other in
      (inside_iff all inner outer nested).1
      (first.0 ++ middle ∷ second.0, leads_on all first.0 second.0 inner middle outer first.1 second.1)

  -- a mark stands behind each that it stands inside of
  outer_before : (inner outer : ℕ) → is_inside all inner outer ≡ true → outer < inner
  outer_before inner outer is =
      let leads = (inside_iff all inner outer nested).0 is in
      leads_earlier all nested leads.0 inner outer leads.1

  not_inside : (inner outer : ℕ) → inner ≤ outer → is_inside all inner outer ≡ false
  not_inside inner outer before =
      false_from_ne_true (is_inside all inner outer) (λ is. omega (arith, before, outer_before inner outer is))

  module _ (k : ℕ) where
    -- what the count of the mark at a place says of passes of the one at place k
    abbrev digit : ℕ → ℕ → ℕ
    digit place count = if place == k then count else (if is_inside all k place then count else 0)

    -- the number of passes that counts stand for
    abbrev pub told : ℕ → List Mark → List ℕ → ℕ
    told place [] counts = 0
    told place (mark ∷ marks) [] = 0
    told place (mark ∷ marks) (count ∷ counts) =
        digit place count * passes_from all k (place + 1) marks + told (place + 1) marks counts

    -- what stands behind the mark lends nothing to its passes,
    behind_one : (place : ℕ) (marks : List Mark) → k < place → passes_from all k place marks ≡ 1
    behind_one place [] behind = refl
    behind_one place (mark ∷ marks) behind =
        rw (
          ne_eqb place k (λ same. omega (arith, same, behind)),
          not_inside k place (omega (arith, behind)),
          behind_one (place + 1) marks (omega (arith, behind)),
        ) refl

    -- and stands for none.
    behind_none : (place : ℕ) (marks : List Mark) (counts : List ℕ) → k < place → told place marks counts ≡ 0
    behind_none place [] counts behind = refl
    behind_none place (mark ∷ marks) [] behind = refl
    behind_none place (mark ∷ marks) (count ∷ counts) behind =
        rw (
          ne_eqb place k (λ same. omega (arith, same, behind)),
          not_inside k place (omega (arith, behind)),
          behind_none (place + 1) marks counts (omega (arith, behind)),
        ) (omega arith)

    -- Counts within what the marks allow stand for the most at most.
    pub told_most : (place : ℕ) (marks : List Mark) (counts : List ℕ) → AreWithin marks counts
        → told place marks counts ≤ passes_from all k place marks
    told_most place [] [] within = omega arith
    told_most place [] (count ∷ counts) within = absurd within
    told_most place (mark ∷ marks) [] within = absurd within
    told_most place (mark ∷ marks) (count ∷ counts) within =
        elim (cases_lt place k) [
          | inl before ↦
              before_it (λ same. omega (arith, same, before)) (told_most (place + 1) marks counts within.1)
              (is_inside all k place) refl
          | inr past ↦ (elim (cases_lt k place) [
            | inl behind ↦ omega (arith, behind_none place (mark ∷ marks) (count ∷ counts) behind)
            | inr not ↦
                let here : place ≡ k = omega (arith, past, not) in
                rw (
                  eq-eqb place k here,
                  behind_one (place + 1) marks (omega (arith, here)),
                  behind_none (place + 1) marks counts (omega (arith, here)),
                ) (omega (arith, within.0))
          ])
        ]
      where
        before_it : place ≢ k → told (place + 1) marks counts ≤ passes_from all k (place + 1) marks → (inside : Bool)
            → is_inside all k place ≡ inside
            → told place (mark ∷ marks) (count ∷ counts) ≤ passes_from all k place (mark ∷ marks)
        before_it ne others true is =
            rw (ne_eqb place k ne, is) (omega (
              arith,
              others,
              mul-le-mul_left (passes_from all k (place + 1) marks) within.0,
            ))
        before_it ne others false is = rw (ne_eqb place k ne, is) (omega (arith, others))

    -- A pass of the mark raises that number,
    pub own_pass : (place : ℕ) (marks : List Mark) (counts : List ℕ) → AreWithin marks counts → place ≤ k
        → k < place + length marks → told place marks counts + 1 ≤ told place marks (passed_from all k place counts)
    own_pass place [] counts within low high = absurd (omega (arith, low, high))
    own_pass place (mark ∷ marks) [] within low high = absurd within
    own_pass place (mark ∷ marks) (count ∷ counts) within low high =
        elim (cases_lt place k) [
          | inl before ↦
              rw (
                ne_eqb place k (λ same. omega (arith, same, before)),
                not_inside place k (omega (arith, before)),
              ) (omega (arith, own_pass (place + 1) marks counts within.1 (omega (arith, before)) (omega (arith, high))))
          | inr past ↦
              let here : place ≡ k = omega (arith, past, low) in
              rw (
                eq-eqb place k here,
                behind_one (place + 1) marks (omega (arith, here)),
                behind_none (place + 1) marks counts (omega (arith, here)),
                behind_none (place + 1) marks (passed_from all k (place + 1) counts) (omega (arith, here)),
              ) (omega arith)
        ]

    module _ (m : ℕ) where
      -- one of a mark that it stands inside of makes up for its count,
      pub outer_pass : is_inside all k m ≡ true → (place : ℕ) (marks : List Mark) (counts : List ℕ)
          → AreWithin marks counts → place ≤ m → told place marks counts ≤ told place marks (passed_from all m place counts)
      outer_pass inside place [] counts within low = omega arith
      outer_pass inside place (mark ∷ marks) [] within low = absurd within
      outer_pass inside place (mark ∷ marks) (count ∷ counts) within low =
          elim (cases_lt place m) [
            | inl before ↦
                rw (
                  ne_eqb place m (λ same. omega (arith, same, before)),
                  not_inside place m (omega (arith, before)),
                ) (omega (arith, outer_pass inside (place + 1) marks counts within.1 (omega (arith, before))))
            | inr past ↦
                let here : place ≡ m = omega (arith, past, low) in
                let own : is_inside all k place ≡ true = ap (is_inside all k) here ∙ inside in
                rw (
                  eq-eqb place m here,
                  ne_eqb place k (λ same. omega (arith, same, outer_before k place own)),
                  own,
                ) (omega (arith, told_most (place + 1) marks counts within.1))
          ]

      -- and no other changes it.
      module _ (ne : m ≢ k) (outside : is_inside all k m ≡ false) where
        same_digit : (place count : ℕ)
            → digit place (if place == m then count + 1 else (if is_inside all place m then 0 else count))
            ≡ digit place count
        same_digit place count = go (place == k) refl (is_inside all k place) refl
          where
            go : (own : Bool) → (place == k) ≡ own → (inside : Bool) → is_inside all k place ≡ inside
                → digit place (if place == m then count + 1 else (if is_inside all place m then 0 else count))
                ≡ digit place count
            go true is inside in_it =
                let here : place ≡ k = eqb-true place k is in
                rw (
                  ne_eqb place m (λ same. ne (sym same ∙ here)),
                  ap (λ (n : ℕ). is_inside all n m) here ∙ outside,
                ) refl
            go false is true in_it =
                rw (
                  ne_eqb place m (λ same. false≢true (sym outside ∙ ap (is_inside all k) (sym same) ∙ in_it)),
                  false_from_ne_true (is_inside all place m)
                      (λ h. false≢true (sym outside ∙ inside_through k place m in_it h)),
                ) refl
            go false is false in_it = rw (is, in_it) refl

        pub other_pass : (place : ℕ) (marks : List Mark) (counts : List ℕ)
            → told place marks (passed_from all m place counts) ≡ told place marks counts
        other_pass place [] counts = refl
        other_pass place (mark ∷ marks) [] = refl
        other_pass place (mark ∷ marks) (count ∷ counts) =
            ap (λ (n : ℕ). n * passes_from all k (place + 1) marks
            + told (place + 1) marks (passed_from all m (place + 1) counts)) (same_digit place count)
            ∙ ap (λ (n : ℕ). digit place count * passes_from all k (place + 1) marks + n)
            (other_pass (place + 1) marks counts)

-- All marks together are passed no more often than the most of each, where one round of each mark has one pass of it
-- and those that the marks inside of it need.
use Rattle.std.proofs.Common.{◌≡◌, ◌≢◌, ℕ, suc, ◌+◌, ◌*◌, ◌<◌, ◌≤◌, Bool, true, false, List, [], ◌∷◌, length}
use Rattle.std.proofs.Common.{Some, refl, ap, sym, ◌∙◌, subst, arith, mul-add}
use Rattle.std.specs.Prelude.{if◌then◌else◌, slice_get, slice_index}
use Rattle.std.proofs.Math.Nat.{add-mul, mul-le-mul_left, mul_assoc}
use Rattle.std.proofs.lemmas.Bool.{eq-eqb, false_from_ne_true, ne_eqb}
use Rattle.std.proofs.lemmas.Bool.Decides.{Decides-like, same_from_decides}
use Rattle.std.proofs.lemmas.Option.{same_Some}
use Rattle.base_notes.specs.declared.notes.mark.Mark.{Mark}
use Rattle.base_notes.specs.Allowed.{StandInEarlier}
use Rattle.machine_steps.specs.Counts.{is_inside, outer_of}
use Rattle.machine_steps.specs.Since.{LeadsOut, StandsInside}
use Rattle.machine_steps.proofs.SinceLaws.{inside_iff, leads_earlier}
use Rattle.flow_graph.specs.MostPasses.{most_passes, passes_from}
use Rattle.ceiling_checked.specs.InRounds.{passes_inside, passes_in_all}
use Rattle.ceiling_checked.specs.Size.{passes_together}

-- the passes of these marks, the first of which has this index, each mark's so many times
abbrev weighed : ℕ → List Mark → List ℕ → (ℕ → ℕ) → ℕ
weighed index [] rounds times = 0
weighed index (mark ∷ marks) [] times = 0
weighed index (mark ∷ marks) (round ∷ rounds) times =
    times index * (mark.most * round) + weighed (index + 1) marks rounds times

-- taken once each they are all passes
weighed_once : (index : ℕ) (marks : List Mark) (rounds : List ℕ)
    → passes_in_all marks rounds ≡ weighed index marks rounds (λ k. 1)
weighed_once index [] rounds = refl
weighed_once index (mark ∷ marks) [] = refl
weighed_once index (mark ∷ marks) (round ∷ rounds) = omega (arith, weighed_once (index + 1) marks rounds)

module _ (all : List Mark) (nested : StandInEarlier 0 all) where
  -- so many times, and so many more for the marks inside of one
  abbrev more_inside : ℕ → ℕ → (ℕ → ℕ) → ℕ → ℕ
  more_inside outer more times k = times k + (if is_inside all k outer then more else 0)

  -- what the passes of those marks add by that
  weighed_more : (outer more index : ℕ) (marks : List Mark) (rounds : List ℕ) (times : ℕ → ℕ)
      → weighed index marks rounds (more_inside outer more times)
      ≡ weighed index marks rounds times + more * passes_inside all outer index marks rounds
  weighed_more outer more index [] rounds times = omega arith
  weighed_more outer more index (mark ∷ marks) [] times = omega arith
  weighed_more outer more index (mark ∷ marks) (round ∷ rounds) times =
      one (is_inside all index outer) (weighed_more outer more (index + 1) marks rounds times)
    where
      rest : ℕ
      rest = passes_inside all outer (index + 1) marks rounds

      one : (inside : Bool)
          → weighed (index + 1) marks rounds (more_inside outer more times)
          ≡ weighed (index + 1) marks rounds times + more * rest
          → (times index + (if inside then more else 0)) * (mark.most * round)
          + weighed (index + 1) marks rounds (more_inside outer more times)
          ≡ times index * (mark.most * round) + weighed (index + 1) marks rounds times
          + more * ((if inside then mark.most * round else 0) + rest)
      one true others =
          omega (
            arith,
            others,
            add-mul (times index) more (mark.most * round),
            mul-add more (mark.most * round) rest,
          )
      one false others = omega (arith, others)

  -- what a mark stands inside of, its outer one stands inside of too, but for that one itself
  alike_outward : (inner next outer : ℕ) → outer_of (slice_get all inner) ≡ Some next → outer ≢ next
      → is_inside all inner outer ≡ is_inside all next outer
  alike_outward inner next outer is other =
      same_from_decides (is_inside all inner outer) (is_inside all next outer)
      (Decides-like (is_inside all inner outer) shorter longer (inside_iff all inner outer nested))
      (inside_iff all next outer nested)
    where
      shorter : StandsInside all inner outer → StandsInside all next outer
      shorter ([], leads) = absurd (other (same_Some outer next (sym leads ∙ is)))
      shorter (one ∷ through, leads) =
          (through, subst (λ (k : ℕ). LeadsOut all k through outer) (same_Some one next (sym leads.0 ∙ is)) leads.1)

      longer : StandsInside all next outer → StandsInside all inner outer
      longer stands = (next ∷ stands.0, (is, stands.1))

  -- marks, one of them inside of the other, stand inside of the same ones that stand before both
  alike_before : (through : List ℕ) (inner middle outer : ℕ) → LeadsOut all inner through middle → outer < middle
      → is_inside all inner outer ≡ is_inside all middle outer
  alike_before [] inner middle outer leads before =
      alike_outward inner middle outer leads (λ same. omega (arith, same, before))
  alike_before (next ∷ nexts) inner middle outer leads before =
      let earlier : middle < next = leads_earlier all nested nexts next middle leads.1 in
      alike_outward inner next outer leads.0 (λ same. omega (arith, same, before, earlier))
      ∙ alike_before nexts next middle outer leads.1 before

  -- no mark stands inside of itself or a later one
  not_inside : (inner outer : ℕ) → inner ≤ outer → is_inside all inner outer ≡ false
  not_inside inner outer before =
      false_from_ne_true (is_inside all inner outer) (λ inside.
      let leads = (inside_iff all inner outer nested).0 inside in
      omega (arith, before, leads_earlier all nested leads.0 inner outer leads.1))

  -- what stands behind a mark lends nothing to its most
  behind_one : (k index : ℕ) (marks : List Mark) → k < index → passes_from all k index marks ≡ 1
  behind_one k index [] behind = refl
  behind_one k index (mark ∷ marks) behind =
      rw (
        ne_eqb index k (λ same. omega (arith, same, behind)),
        not_inside k index (omega (arith, behind)),
        behind_one k (index + 1) marks (omega (arith, behind)),
      ) refl

  -- Where the most of each mark is so many times what these marks lend to it, and a mark inside of one of these has as
  -- many times as that one, the passes of these, each mark's so many times, are no more than the most of each.
  weighed_below : (index : ℕ) (marks : List Mark) (rounds : List ℕ) (times : ℕ → ℕ)
      → ((k : ℕ) → index ≤ k → most_passes all k ≡ times k * passes_from all k index marks)
      → ((inner outer : ℕ) → index ≤ outer → is_inside all inner outer ≡ true → times inner ≡ times outer)
      → ((k j : ℕ) → index + j ≡ k → j < length marks
      → slice_index rounds j ≤ 1 + passes_inside all k index marks rounds)
      → weighed index marks rounds times ≤ passes_together all index marks
  weighed_below index [] rounds times lent alike few = omega arith
  weighed_below index (mark ∷ marks) [] times lent alike few = omega arith
  weighed_below index (mark ∷ marks) (round ∷ rounds) times lent alike few =
      let within : round ≤ 1 + passes_inside all index (index + 1) marks rounds =
      few_on index 0 (omega arith) (omega arith) in
      omega (
        arith,
        mul_assoc (times index) mark.most round,
        ap (λ (n : ℕ). n * round) own,
        mul-le-mul_left most within,
        mul-add most 1 (passes_inside all index (index + 1) marks rounds),
        weighed_more index most (index + 1) marks rounds times,
        weighed_below (index + 1) marks rounds (more_inside index most times)
            (λ k behind. lent_on k behind (is_inside all k index) refl) alike_on
            (λ k j at below. few_on k (suc j) (omega (arith, at)) (omega (arith, below))),
      )
    where
      -- the first mark's most, and what it is
      most : ℕ
      most = most_passes all index

      own : most ≡ times index * mark.most
      own = lent index (omega arith) ∙ rw (
        eq-eqb index index refl,
        behind_one index (index + 1) marks (omega arith),
      ) (omega arith)

      -- what the first mark lends to the most of the others, the times have then
      lent_on : (k : ℕ) → index + 1 ≤ k → (inside : Bool) → is_inside all k index ≡ inside
          → most_passes all k
          ≡ (times k + (if inside then most else 0)) * passes_from all k (index + 1) marks
      lent_on k behind true is =
          let rest : ℕ = passes_from all k (index + 1) marks in
          let so : most_passes all k ≡ times k * ((mark.most + 1) * rest) =
          rw (ne_eqb index k (λ same. omega (arith, same, behind)), is) at (lent k (omega (arith, behind))) in
          let sum : times k * (mark.most + 1) ≡ times k + most =
          let same : times k * mark.most ≡ times index * mark.most =
          ap (λ (n : ℕ). n * mark.most) (alike k index (omega arith) is) in
          omega (arith, mul-add (times k) mark.most 1, own, same) in
          so ∙ sym (mul_assoc (times k) (mark.most + 1) rest) ∙ ap (λ (n : ℕ). n * rest) sum
      lent_on k behind false is =
          let rest : ℕ = passes_from all k (index + 1) marks in
          let so : most_passes all k ≡ times k * (1 * rest) =
          rw (ne_eqb index k (λ same. omega (arith, same, behind)), is) at (lent k (omega (arith, behind))) in
          omega (arith, so)

      -- marks, one of them inside of the other, still have as many
      alike_on : (inner outer : ℕ) → index + 1 ≤ outer → is_inside all inner outer ≡ true
          → more_inside index most times inner ≡ more_inside index most times outer
      alike_on inner outer behind inside =
          let leads = (inside_iff all inner outer nested).0 inside in
          rw (
            alike inner outer (omega (arith, behind)) inside,
            alike_before leads.0 inner outer index leads.1 (omega (arith, behind)),
          ) refl

      -- the first mark stands inside of none of these
      few_on : (k j : ℕ) → index + j ≡ k → j < length (mark ∷ marks)
          → slice_index (round ∷ rounds) j ≤ 1 + passes_inside all k (index + 1) marks rounds
      few_on k j at below = omega (arith, rw (not_inside index k (omega (arith, at))) at (few k j at below))

-- All marks together are passed no more often than the most of each.
pub together : (marks : List Mark) (rounds : List ℕ) → StandInEarlier 0 marks → length rounds ≡ length marks
    → ((k : ℕ) → k < length marks → slice_index rounds k ≤ 1 + passes_inside marks k 0 marks rounds)
    → passes_in_all marks rounds ≤ passes_together marks 0 marks
together marks rounds nested long few =
    omega (
      arith,
      weighed_once 0 marks rounds,
      weighed_below marks nested 0 marks rounds (λ k. 1) (λ k low. omega arith) (λ inner outer low inside. refl)
          (λ k j at below.
          let here : j ≡ k = omega (arith, at) in
          subst (λ (n : ℕ). slice_index rounds j ≤ 1 + passes_inside marks n 0 marks rounds) here (few j below)),
    )

-- What the passes that are left cost falls in a round of a mark by what the round's edges cost.
use Rattle.std.proofs.Common.{◌≡◌, ℕ, zero, suc, ◌+◌, ◌-◌, ◌*◌, ◌<◌, ◌≤◌, Bool, true, false, List, [], ◌∷◌, Option, Some, None}
use Rattle.std.proofs.Common.{refl, ap, sym, ◌∙◌, arith, mul-add}
use Rattle.std.specs.Prelude.{◌==◌, if◌then◌else◌, slice_index}
use Rattle.std.proofs.Math.Nat.{mul-le-mul_left}
use Rattle.std.proofs.lemmas.Bool.{eq-eqb, eqb-true, ne_eqb, false≢true}
use Rattle.std.proofs.lemmas.List.Sums.{sum_by-cons}
use Rattle.base_notes.specs.declared.notes.mark.Mark.{Mark}
use Rattle.base_notes.specs.Marks.{mark_on}
use Rattle.machine_steps.specs.Counts.{after_pass, is_inside, passed_from, AreWithin}
use Rattle.machine_steps.specs.Since.{counts_along, Edge}
use Rattle.ceiling_checked.specs.Affine.{cost_left}
use Rattle.ceiling_checked.specs.Rounds.{price_in, round_cost}
use Rattle.ceiling_checked.proofs.Left.{left}

module _ (all : List Mark) (within : ℕ → Bool) (round : ℕ) where
  -- the same of the marks that don't stand inside of the round's mark
  abbrev beside : ℕ → List Mark → List ℕ → List ℕ → ℕ
  beside index [] prices counts = 0
  beside index (mark ∷ marks) [] counts = 0
  beside index (mark ∷ marks) (price ∷ prices) [] = 0
  beside index (mark ∷ marks) (price ∷ prices) (count ∷ counts) =
      (if is_inside all index round then 0 else left (within index) price mark.most count)
      + beside (index + 1) marks prices counts

  -- and of those that do, none of which was passed yet
  abbrev whole : ℕ → List Mark → List ℕ → ℕ
  whole index [] prices = 0
  whole index (mark ∷ marks) [] = 0
  whole index (mark ∷ marks) (price ∷ prices) =
      (if is_inside all index round then left (within index) price mark.most 0 else 0)
      + whole (index + 1) marks prices

  -- behind a pass of the round's mark it is both
  split : is_inside all round round ≡ false → (index : ℕ) (marks : List Mark) (prices counts : List ℕ)
      → AreWithin marks (passed_from all round index counts)
      → cost_left within index marks prices (passed_from all round index counts)
      ≡ beside index marks prices (passed_from all round index counts) + whole index marks prices
  split other index [] prices counts few = refl
  split other index (mark ∷ marks) [] counts few = refl
  split other index (mark ∷ marks) (price ∷ prices) [] few = absurd few
  split other index (mark ∷ marks) (price ∷ prices) (count ∷ counts) few =
      omega (
        arith,
        go (index == round) (is_inside all index round) refl refl,
        split other (index + 1) marks prices counts few.1,
      )
    where
      go : (own inside : Bool) → (index == round) ≡ own → is_inside all index round ≡ inside
          → left (within index) price mark.most (if own then count + 1 else (if inside then 0 else count))
          ≡ (if inside then 0 else left (within index) price mark.most (if own then count + 1 else (if inside then 0 else count)))
          + (if inside then left (within index) price mark.most 0 else 0)
      go own false is in_it = omega arith
      go false true is in_it = omega arith
      go true true is in_it =
          let same : index ≡ round = eqb-true index round is in
          absurd (false≢true (sym other ∙ ap (λ (n : ℕ). is_inside all n round) (sym same) ∙ in_it))

  -- one pass fewer costs a price at most
  one_fewer : (w : Bool) (price most count : ℕ) → left w price most count ≤ left w price most (count + 1) + price
  one_fewer true price most count =
      let less : price * (most - count) ≤ price * (most - (count + 1) + 1) = mul-le-mul_left price (omega arith) in
      omega (arith, less, mul-add price (most - (count + 1)) 1)
  one_fewer false price most count = omega arith

  -- and where the count begins anew, no less is left
  again : (w inside : Bool) (price most count : ℕ)
      → left w price most count ≤ left w price most (if inside then 0 else count)
  again true true price most count = mul-le-mul_left price (omega arith)
  again false true price most count = omega arith
  again w false price most count = omega arith

  module _ (passed : ℕ) where
    head_other : (index price most count : ℕ) (own : Bool) → own ≡ false
        → (if is_inside all index round then 0 else left (within index) price most count)
        ≤ (if is_inside all index round then 0 else left (within index) price most
        (if own then count + 1 else (if is_inside all index passed then 0 else count)))
    head_other index price most count true clash = cc
    head_other index price most count false is = go (is_inside all index round)
      where
        go : (b : Bool) → (if b then 0 else left (within index) price most count)
            ≤ (if b then 0 else left (within index) price most (if is_inside all index passed then 0 else count))
        go true = omega arith
        go false = again (within index) (is_inside all index passed) price most count

    head_own : (index price most count : ℕ) (own : Bool) → own ≡ true
        → (if is_inside all index round then 0 else left (within index) price most count)
        ≤ (if is_inside all index round then 0 else left (within index) price most
        (if own then count + 1 else (if is_inside all index passed then 0 else count)))
        + (if is_inside all index round then 0 else price)
    head_own index price most count false clash = cc
    head_own index price most count true is = go (is_inside all index round)
      where
        go : (b : Bool) → (if b then 0 else left (within index) price most count)
            ≤ (if b then 0 else left (within index) price most (count + 1)) + (if b then 0 else price)
        go true = omega arith
        go false = one_fewer (within index) price most count

    past : (index : ℕ) (marks : List Mark) (prices counts : List ℕ) → passed < index
        → beside index marks prices counts ≤ beside index marks prices (passed_from all passed index counts)
    past index [] prices counts before = omega arith
    past index (mark ∷ marks) [] counts before = omega arith
    past index (mark ∷ marks) (price ∷ prices) [] before = omega arith
    past index (mark ∷ marks) (price ∷ prices) (count ∷ counts) before =
        omega (
          arith,
          head_other index price mark.most count (index == passed) (ne_eqb index passed (λ same. omega (arith, same, before))),
          past (index + 1) marks prices counts (omega (arith, before)),
        )

    at : (index j : ℕ) (marks : List Mark) (prices counts : List ℕ) → index + j ≡ passed
        → beside index marks prices counts ≤ beside index marks prices (passed_from all passed index counts)
        + (if is_inside all passed round then 0 else slice_index prices j)
    at index j [] prices counts is = omega arith
    at index j (mark ∷ marks) [] counts is = omega arith
    at index j (mark ∷ marks) (price ∷ prices) [] is = omega arith
    at index zero (mark ∷ marks) (price ∷ prices) (count ∷ counts) is =
        let same : index ≡ passed = omega (arith, is) in
        omega (
          arith,
          head_own index price mark.most count (index == passed) (eq-eqb index passed same),
          past (index + 1) marks prices counts (omega (arith, same)),
          ap (λ (n : ℕ). if is_inside all n round then 0 else price) same,
        )
    at index (suc j) (mark ∷ marks) (price ∷ prices) (count ∷ counts) is =
        omega (
          arith,
          head_other index price mark.most count (index == passed) (ne_eqb index passed (λ same. omega (arith, same, is))),
          at (index + 1) j marks prices counts (omega (arith, is)),
        )

  -- an edge
  one_edge : (prices counts : List ℕ) (from onto : ℕ) → beside 0 all prices counts
      ≤ beside 0 all prices (after_pass all from onto counts) + price_in all prices round (mark_on all from onto)
  one_edge prices counts from onto = go (mark_on all from onto)
    where
      go : (found : Option ℕ) → beside 0 all prices counts
          ≤ beside 0 all prices (elim found [ None ↦ counts | Some passed ↦ passed_from all passed 0 counts ])
          + price_in all prices round found
      go None = omega arith
      go (Some passed) = at passed 0 passed all prices counts (omega arith)

  -- edges, one after the other
  along : (prices counts : List ℕ) (edges : List Edge) → beside 0 all prices counts
      ≤ beside 0 all prices (counts_along all counts edges) + round_cost all prices round edges
  along prices counts [] = omega arith
  along prices counts (edge ∷ edges) =
      omega (
        arith,
        one_edge prices counts edge.from edge.onto,
        along prices (after_pass all edge.from edge.onto counts) edges,
        sum_by-cons (λ (e : Edge). price_in all prices round (mark_on all e.from e.onto)) edge edges,
      )

  -- From one pass of the mark to another no more goes off than what the edges cost.
  pub round_left : is_inside all round round ≡ false → (prices first last : List ℕ) (edges : List Edge)
      → AreWithin all (passed_from all round 0 first) → AreWithin all (passed_from all round 0 last)
      → counts_along all (passed_from all round 0 first) edges ≡ passed_from all round 0 last
      → cost_left within 0 all prices (passed_from all round 0 first)
      ≤ cost_left within 0 all prices (passed_from all round 0 last) + round_cost all prices round edges
  round_left other prices first last edges few few_last is =
      omega (
        arith,
        split other 0 all prices first few,
        split other 0 all prices last few_last,
        along prices (passed_from all round 0 first) edges,
        ap (beside 0 all prices) is,
      )

-- What the passes that are left cost, when marks are passed: round by round, and at a step.
use Rattle.std.proofs.Common.{◌≡◌, ℕ, zero, suc, ◌+◌, ◌-◌, ◌*◌, ◌<◌, ◌≤◌, Bool, true, false, List, [], ◌∷◌, length, Option, Some}
use Rattle.std.proofs.Common.{None, refl, ap, ◌∙◌, subst, arith, eq-eqb, mul-add}
use Rattle.std.specs.Prelude.{◌==◌, if◌then◌else◌, slice_index}
use Rattle.std.proofs.Math.Nat.{mul-le-mul_left}
use Rattle.std.proofs.lemmas.Bool.{ne_eqb}
use Rattle.base_notes.specs.declared.notes.mark.Mark.{Mark}
use Rattle.machine_steps.specs.Counts.{is_inside, passed_from, AreWithin}
use Rattle.ceiling_checked.specs.Affine.{cost_left}
use Rattle.ceiling_checked.specs.Charge.{charge_from, owed_anew, paid_by}

-- what the passes cost that are left of a mark
abbrev pub left : Bool → ℕ → ℕ → ℕ → ℕ
left within price most count = if within then price * (most - count) else 0

module _ (all : List Mark) (here there : ℕ → Bool) where
  -- A step without a mark owes no more than before and what is charged for it.
  pub unmarked_step : (index : ℕ) (marks : List Mark) (prices counts : List ℕ)
      → cost_left there index marks prices counts
      ≤ cost_left here index marks prices counts + charge_from all here there None index marks prices
  unmarked_step index [] prices counts = omega arith
  unmarked_step index (mark ∷ marks) [] counts = omega arith
  unmarked_step index (mark ∷ marks) (price ∷ prices) [] = omega arith
  unmarked_step index (mark ∷ marks) (price ∷ prices) (count ∷ counts) =
      omega (arith, one (here index) (there index), unmarked_step (index + 1) marks prices counts)
    where
      one : (h t : Bool) → left t price mark.most count
          ≤ left h price mark.most count + price * (if t then owed_anew all None h index mark.most else 0)
      one true true = omega arith
      one false true =
          let less : price * (mark.most - count) ≤ price * mark.most = mul-le-mul_left price (omega arith) in
          omega (arith, less)
      one true false = omega arith
      one false false = omega arith

  module _ (passed : ℕ) where
    -- what is charged for a mark other than the one that is passed covers what is owed of it anew
    other : (index count most price : ℕ) (own inside h t : Bool) → own ≡ false
        → left t price most (if own then count + 1 else (if inside then 0 else count))
        ≤ left h price most count
        + price * (if t then (if own then (if h then 0 else most - 1) else (if inside then most else (if h then 0 else most))) else 0)
    other index count most price true inside h t clash = cc
    other index count most price false inside h false is = omega arith
    other index count most price false true h true is =
        let whole : price * (most - 0) ≤ price * most = mul-le-mul_left price (omega arith) in
        omega (arith, whole)
    other index count most price false false true true is = omega arith
    other index count most price false false false true is =
        let less : price * (most - count) ≤ price * most = mul-le-mul_left price (omega arith) in
        omega (arith, less)

    -- and so does what is charged for its own, with its price where the step begins in its region
    own : (index count most price : ℕ) (own inside h t : Bool) → own ≡ true → count + 1 ≤ most
        → left t price most (if own then count + 1 else (if inside then 0 else count)) + (if h then price else 0)
        ≤ left h price most count
        + price * (if t then (if own then (if h then 0 else most - 1) else (if inside then most else (if h then 0 else most))) else 0)
    own index count most price false inside h t clash few = cc
    own index count most price true inside true true is few =
        let whole : most - count ≡ most - (count + 1) + 1 = omega (arith, few) in
        let split : price * (most - count) ≡ price * (most - (count + 1)) + price * 1 =
        ap (λ (n : ℕ). price * n) whole ∙ mul-add price (most - (count + 1)) 1 in
        omega (arith, split)
    own index count most price true inside true false is few =
        let one : price * 1 ≤ price * (most - count) = mul-le-mul_left price (omega (arith, few)) in
        omega (arith, one)
    own index count most price true inside false true is few =
        let less : price * (most - (count + 1)) ≤ price * (most - 1) = mul-le-mul_left price (omega arith) in
        omega (arith, less)
    own index count most price true inside false false is few = omega arith

    -- behind the mark that is passed
    past : (index : ℕ) (marks : List Mark) (prices counts : List ℕ) → passed < index
        → cost_left there index marks prices (passed_from all passed index counts)
        ≤ cost_left here index marks prices counts + charge_from all here there (Some passed) index marks prices
    past index [] prices counts before = omega arith
    past index (mark ∷ marks) [] counts before = omega arith
    past index (mark ∷ marks) (price ∷ prices) [] before = omega arith
    past index (mark ∷ marks) (price ∷ prices) (count ∷ counts) before =
        omega (
          arith,
          other index count mark.most price (index == passed) (is_inside all index passed) (here index) (there index)
              (ne_eqb index passed (λ same. omega (arith, same, before))),
          past (index + 1) marks prices counts (omega (arith, before)),
        )

    -- A step by a mark owes no more than before, less the price where it begins in the mark's region, and what is charged.
    marked : (index j : ℕ) (marks : List Mark) (prices counts : List ℕ) → index + j ≡ passed
        → length prices ≡ length marks → AreWithin marks (passed_from all passed index counts)
        → cost_left there index marks prices (passed_from all passed index counts)
        + (if here passed then slice_index prices j else 0)
        ≤ cost_left here index marks prices counts + charge_from all here there (Some passed) index marks prices
    marked index j [] [] counts at long within = omega (arith, go (here passed))
      where
        go : (h : Bool) → (if h then 0 else 0) ≤ 0
        go true = omega arith
        go false = omega arith
    marked index j [] (price ∷ prices) counts at long within = absurd (omega (arith, long))
    marked index j (mark ∷ marks) [] counts at long within = absurd (omega (arith, long))
    marked index j (mark ∷ marks) (price ∷ prices) [] at long within = absurd within
    marked index zero (mark ∷ marks) (price ∷ prices) (count ∷ counts) at long within =
        let same : index ≡ passed = omega (arith, at) in
        let is : (index == passed) ≡ true = eq-eqb index passed same in
        let few : count + 1 ≤ mark.most =
        subst (λ (b : Bool). (if b then count + 1 else (if is_inside all index passed then 0 else count)) ≤ mark.most) is
        within.0 in
        omega (
          arith,
          own index count mark.most price (index == passed) (is_inside all index passed) (here index) (there index) is few,
          past (index + 1) marks prices counts (omega (arith, same)),
          ap (λ (n : ℕ). if here n then price else 0) same,
        )
    marked index (suc j) (mark ∷ marks) (price ∷ prices) (count ∷ counts) at long within =
        omega (
          arith,
          other index count mark.most price (index == passed) (is_inside all index passed) (here index) (there index)
              (ne_eqb index passed (λ same. omega (arith, same, at))),
          marked (index + 1) j marks prices counts (omega (arith, at)) (omega (arith, long)) within.1,
        )

    pub marked_step : (prices counts : List ℕ) → length prices ≡ length all
        → AreWithin all (passed_from all passed 0 counts)
        → cost_left there 0 all prices (passed_from all passed 0 counts) + paid_by here prices (Some passed)
        ≤ cost_left here 0 all prices counts + charge_from all here there (Some passed) 0 all prices
    marked_step prices counts long within = marked 0 passed all prices counts (omega arith) long within

-- Where nothing is owed behind a step, nothing is charged for it,
no_charge : (all : List Mark) (here : ℕ → Bool) (passed : Option ℕ) (index : ℕ) (marks : List Mark) (prices : List ℕ)
    → charge_from all here (λ k. false) passed index marks prices ≡ 0
no_charge all here passed index [] prices = refl
no_charge all here passed index (mark ∷ marks) [] = refl
no_charge all here passed index (mark ∷ marks) (price ∷ prices) =
    omega (arith, no_charge all here passed (index + 1) marks prices)

-- so what is paid for a pass is no more than what is left before it.
pub paid_left : (all : List Mark) (here : ℕ → Bool) (passed : ℕ) (prices counts : List ℕ)
    → length prices ≡ length all → AreWithin all (passed_from all passed 0 counts)
    → paid_by here prices (Some passed) ≤ cost_left here 0 all prices counts
paid_left all here passed prices counts long within =
    omega (
      arith,
      marked_step all here (λ k. false) passed prices counts long within,
      no_charge all here (Some passed) 0 all prices,
    )

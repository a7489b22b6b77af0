-- What a step is charged, mark by mark.
use Rattle.std.proofs.Common.{◌≡◌, ℕ, ◌+◌, ◌-◌, ◌*◌, ◌/◌, ◌%◌, ◌^◌, ◌<◌, Bool, true, false, List, [], ◌∷◌, length, drop, get_or, Option, Some, None}
use Rattle.std.proofs.Common.{refl, ap, sym, ◌∙◌, arith}
use Rattle.std.specs.Prelude.{◌==◌, if◌then◌else◌, is_some, slice_index}
use Rattle.std.proofs.Math.Nat.{zero-div}
use Rattle.std.proofs.lemmas.List.{drop_more}
use Rattle.base_notes.specs.declared.notes.mark.Mark.{Mark}
use Rattle.machine_steps.specs.Counts.{no_counts}
use Rattle.ceiling_checked.specs.Affine.{cost_left}
use Rattle.ceiling_checked.specs.Charge.{charge_from, owed_anew}
use Rattle.ceiling_checked.specs.AtSite.{is_in}

-- A step without a mark is charged nothing where it stays in its regions.
same_regions : (all : List Mark) (here : ℕ → Bool) (index : ℕ) (marks : List Mark) (prices : List ℕ)
    → charge_from all here here None index marks prices ≡ 0
same_regions all here index [] prices = refl
same_regions all here index (mark ∷ marks) [] = refl
same_regions all here index (mark ∷ marks) (price ∷ prices) =
    omega (arith, go (here index), same_regions all here (index + 1) marks prices)
  where
    go : (h : Bool) → price * (if h then (if h then 0 else mark.most) else 0) ≡ 0
    go true = omega arith
    go false = omega arith

pub stays : (all : List Mark) (here there : ℕ) (passed : Option ℕ) (prices : List ℕ) → is_some passed ≡ false
    → here ≡ there → 0 ≡ charge_from all (is_in here) (is_in there) passed 0 all prices
stays all here there None prices none same =
    sym (ap (λ (n : ℕ). charge_from all (is_in here) (is_in n) None 0 all prices) (sym same)
    ∙ same_regions all (is_in here) 0 all prices)
stays all here there (Some k) prices none same = let clash : true ≡ false = none in cc

-- one mark more
pub charge_more : (all : List Mark) (here there : ℕ → Bool) (passed : Option ℕ) (marks : List Mark) (prices : List ℕ)
    (index : ℕ) (mark : Mark) → index < length marks → mark ≡ get_or marks index mark → index < length prices
    → charge_from all here there passed index (drop index marks) (drop index prices)
    ≡ slice_index prices index * (if there index then owed_anew all passed (here index) index mark.most else 0)
    + charge_from all here there passed (index + 1) (drop (index + 1) marks) (drop (index + 1) prices)
charge_more all here there passed marks prices index mark inside is within =
    ap (λ (rest : List Mark). charge_from all here there passed index rest (drop index prices))
    (drop_more marks index mark inside
    ∙ ap (λ (one : Mark). one ∷ drop (index + 1) marks) (sym is))
    ∙ ap (λ (rest : List ℕ). charge_from all here there passed index (mark ∷ drop (index + 1) marks) rest)
    (drop_more prices index 0 within)

-- At the start it is what the passes cost that are left before any.
pub charged_first : (all : List Mark) (here there : ℕ → Bool) (index : ℕ) (marks : List Mark) (prices : List ℕ)
    → ((k : ℕ) → here k ≡ false)
    → charge_from all here there None index marks prices ≡ cost_left there index marks prices (no_counts marks)
charged_first all here there index [] prices none = refl
charged_first all here there index (mark ∷ marks) [] none = refl
charged_first all here there index (mark ∷ marks) (price ∷ prices) none =
    omega (
      arith,
      go (here index) (there index) (none index),
      charged_first all here there (index + 1) marks prices none,
    )
  where
    go : (h t : Bool) → h ≡ false
        → price * (if t then (if h then 0 else mark.most) else 0) ≡ (if t then price * (mark.most - 0) else 0)
    go true t clash = cc
    go false true is = ap (λ (n : ℕ). price * n) (omega arith)
    go false false is = omega arith

-- nothing is in no regions
pub none_in : (k : ℕ) → is_in 0 k ≡ false
none_in k =
    let none : 0 / 2 ^ k ≡ 0 = zero-div (2 ^ k) in
    ap (λ (n : ℕ). (n % 2) == 1) none

-- Of idle_from: one more word is idle, or none is from here on.
use Rattle.std.proofs.Common.{◌≡◌, ℕ, ◌+◌, ◌-◌, ◌<◌, Bool, true, false, List, [], ◌∷◌, length, cond, ap, sym, ◌∙◌, arith}
use Rattle.std.specs.List.{range_with_len, take_while}
use Rattle.std.proofs.lemmas.List.Sums.{take_while-cons}
use Rattle.check_findings.specs.Idle.{idle_from}
use Rattle.check_findings.specs.NamedOf.{is_idle_in}
use Rattle.check_findings.proofs.Adding.{range_first}
use Rattle.check_findings.proofs.idle.idle_from.Goals as goal

-- those from a word on, by whether it is idle
idle_here : (is_one : ℕ → Bool) (number : ℕ) (answer : Bool) → number < 2000 → is_one number ≡ answer
    → idle_from is_one number
    ≡ length (cond answer (number ∷ take_while is_one (range_with_len (number + 1) (2000 - (number + 1)))) [])
idle_here is_one number answer below is =
    let rest : List ℕ = range_with_len (number + 1) (2000 - (number + 1)) in
    ap (λ (xs : List ℕ). length (take_while is_one xs)) (range_first number 2000 below)
    ∙ ap length (take_while-cons is_one number rest)
    ∙ ap (λ (b : Bool). length (cond b (number ∷ take_while is_one rest) [])) is

idle_more : (is_one : ℕ → Bool) (number count all : ℕ) → number < 2000 → is_one number ≡ true
    → count + idle_from is_one number ≡ all → count + 1 + idle_from is_one (number + 1) ≡ all
idle_more is_one number count all below is so_far =
    let here = idle_here is_one number true below is in omega (arith, here, so_far)

idle_ends : (is_one : ℕ → Bool) (number count all : ℕ) → number < 2000 → is_one number ≡ false
    → count + idle_from is_one number ≡ all → count ≡ all
idle_ends is_one number count all below is so_far =
    let here = idle_here is_one number false below is in omega (arith, here, so_far)

pub loop-number-preserved : goal.loop-number-preserved
loop-number-preserved c =
    let is_one : ℕ → Bool = is_idle_in c.args.flow.now in
    let is : is_one c.loop-number.number ≡ true =
    ap is_one (sym c.on_drum.ensures) ∙ sym c.is_idle.ensures ∙ c.if-not-is_idle.false in
    let so_far = c.loop-number.invariant.1 in (
      idle_more is_one c.loop-number.number c.loop-number.count (idle_from is_one c.args.from) c.loop-number-test.true is
          c.loop-number.invariant.0,
      omega (arith, so_far),
    )

pub returns-then-not-is_idle-clause-count : goal.returns-then-not-is_idle-clause-count
returns-then-not-is_idle-clause-count c =
    let is_one : ℕ → Bool = is_idle_in c.args.flow.now in
    let is : is_one c.loop-number.number ≡ false =
    ap is_one (sym c.on_drum.ensures) ∙ sym c.is_idle.ensures ∙ c.if-not-is_idle.true in
    idle_ends is_one c.loop-number.number c.loop-number.count (idle_from is_one c.args.from) c.loop-number-test.true is
    c.loop-number.invariant.0

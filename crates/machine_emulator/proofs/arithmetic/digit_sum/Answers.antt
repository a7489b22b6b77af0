use Rattle.std.proofs.Common.{◌≡◌, ℕ, suc, ◌+◌, ◌-◌, ◌/◌, ◌%◌, ◌<◌, ap, arith}
use Rattle.machine_steps.specs.Timing.{digit_sum}
use Rattle.machine_emulator.proofs.arithmetic.digit_sum.Goals as goal

-- one more digit is taken off
taken : (done left : ℕ) → done < 10 → digit_sum (10 - done) left ≡ left % 10 + digit_sum (10 - (done + 1)) (left / 10)
taken done left more =
    let count : 10 - done ≡ suc (10 - (done + 1)) = omega arith in ap (λ (n : ℕ). digit_sum n left) count

pub loop-preserved : goal.loop-preserved
loop-preserved c =
    let step = taken c.loop.counter c.loop.left (omega arith) in
    (omega (arith, step, c.loop.invariant.0), omega arith)

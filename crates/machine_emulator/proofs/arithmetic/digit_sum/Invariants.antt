use Rattle.std.proofs.Common.{◌≡◌, ◌+◌, ◌-◌, ◌*◌, ◌≤◌}
use Rattle.machine_steps.specs.Timing.{digit_sum}
use Rattle.machine_emulator.proofs.arithmetic.digit_sum.Given as goal

-- what is summed up and what is left add up to the whole
abbrev pub invariant-loop : goal.invariant-loop
invariant-loop l = (l.sum + digit_sum (10 - l.counter) l.left ≡ digit_sum 10 l.number) × (l.sum ≤ 9 * l.counter)

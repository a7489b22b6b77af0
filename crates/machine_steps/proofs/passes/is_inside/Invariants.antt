use Rattle.std.proofs.Common.{◌≡◌, ◌-◌, length}
use Rattle.machine_steps.specs.Counts.{is_inside_by, is_inside}
use Rattle.machine_steps.proofs.passes.is_inside.Given as goal

-- it is inside where the mark that was come to is, in the steps that are left
abbrev pub invariant-loop : goal.invariant-loop
invariant-loop l = is_inside_by (length l.marks - l.counter) l.marks l.place l.outer ≡ is_inside l.marks l.inner l.outer

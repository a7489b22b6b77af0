use Rattle.std.specs.Prelude.{Contains}
use Rattle.machine_steps.specs.Ways.{Way, ways}
use Rattle.machine_steps.specs.WaysLeft.{ways_left}
use Rattle.ceiling_rounds.proofs.setting.has_way.Given as goal

-- what is left are ways of the instruction
abbrev pub invariant-loop-one : goal.invariant-loop-one
invariant-loop-one l = (w : Way) → Contains (ways_left l.one-iterator) w → Contains (ways l.notes l.fn.instruction) w

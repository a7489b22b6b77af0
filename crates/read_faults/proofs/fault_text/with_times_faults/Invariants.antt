use Rattle.std.proofs.Common.{◌≡◌, ◌++◌, flat_map}
use Rattle.std.specs.Prelude.{codes}
use Rattle.read_faults.specs.FaultLines.{note_fault_text}
use Rattle.read_faults.proofs.fault_text.with_times_faults.Given as goal

-- the faults so far
abbrev pub invariant-loop-fault : goal.invariant-loop-fault
invariant-loop-fault l =
    l.text.items ≡ l.fn.text.items ++ flat_map (note_fault_text l.name (codes "times")) l.yielded

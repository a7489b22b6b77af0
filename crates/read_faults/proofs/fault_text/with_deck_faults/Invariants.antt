use Rattle.std.proofs.Common.{◌≡◌, ◌++◌, flat_map, take}
use Rattle.read_faults.specs.FaultLines.{deck_fault_text}
use Rattle.read_faults.proofs.fault_text.with_deck_faults.Given as goal

-- the faults so far
abbrev pub invariant-loop-placed : goal.invariant-loop-placed
invariant-loop-placed l =
    l.text.items ≡ l.fn.text.items ++ flat_map (deck_fault_text l.name l.faults) (take l.placed-index l.faults)

use Rattle.std.proofs.Common.{◌≡◌, ◌++◌, map, take}
use Rattle.check_findings.specs.Finding.{not_in_profile}
use Rattle.check_deck.specs.FindingsOf.{found_in}
use Rattle.check_deck.proofs.findings.Findings.add_operations.Given as goal

-- the operations so far were added
abbrev pub invariant-loop-op : goal.invariant-loop-op
invariant-loop-op l = found_in l.self ≡ found_in l.fn.self
    ++ map (not_in_profile l.fn.location.number) (take l.op-index l.operations)

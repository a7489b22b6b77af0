use Rattle.std.proofs.Common.{◌≡◌, false, map, take}
use Rattle.program_replay.proofs.coverage.none_met.Given as goal

abbrev pub invariant-loop-list : goal.invariant-loop-list
invariant-loop-list l = l.met.items ≡ map (λ list. map (λ _. false) list.patterns.items) (take l.list-index l.lists)

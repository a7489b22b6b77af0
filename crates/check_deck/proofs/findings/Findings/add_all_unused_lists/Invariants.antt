use Rattle.std.proofs.Common.{◌≡◌, ◌++◌, ◌-◌, flat_map}
use Rattle.std.specs.List.{range_with_len}
use Rattle.flow_graph.specs.Flow.{executed_in}
use Rattle.check_findings.specs.FoundAt.{unused_list_at}
use Rattle.check_deck.specs.FindingsOf.{found_in}
use Rattle.check_deck.proofs.findings.Findings.add_all_unused_lists.Given as goal

-- what was found, and what the numbers that are left will add, is what all of them add
abbrev pub invariant-loop-number : goal.invariant-loop-number
invariant-loop-number l = found_in l.self
    ++ flat_map (unused_list_at l.flow.notes.now (executed_in l.flow)) (range_with_len l.number (l.below - l.number))
    ≡ found_in l.fn.self
    ++ flat_map (unused_list_at l.flow.notes.now (executed_in l.flow)) (range_with_len l.fn.from (l.fn.below - l.fn.from))

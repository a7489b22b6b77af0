use Rattle.std.proofs.Common.{◌≡◌, ◌++◌, ◌-◌, map}
use Rattle.std.specs.Prelude.{flat_map}
use Rattle.std.specs.List.{range_with_len}
use Rattle.read_decks.specs.InDeck.{loads_in}
use Rattle.flow_graph.specs.Flow.{executed_in}
use Rattle.check_findings.specs.FindingOf.{seen}
use Rattle.check_findings.specs.Idle.{idle_at}
use Rattle.check_findings.proofs.idle.add_all_idle.Given as goal

-- what was found, and what the numbers that are left will add, is what all of them add
abbrev pub invariant-loop-number : goal.invariant-loop-number
invariant-loop-number l = map seen l.found.items
    ++ flat_map (idle_at (loads_in l.flow.deck.now) l.flow.notes.now (executed_in l.flow))
    (range_with_len l.number (l.below - l.number))
    ≡ map seen l.fn.found.items
    ++ flat_map (idle_at (loads_in l.flow.deck.now) l.flow.notes.now (executed_in l.flow))
    (range_with_len l.fn.from (l.fn.below - l.fn.from))

use Rattle.std.proofs.Common.{◌≡◌, flat_map, map, take}
use Rattle.read_decks.specs.InDeck.{loads_in}
use Rattle.flow_graph.specs.Flow.{executed_in, nodes_of}
use Rattle.check_findings.specs.FoundAt.{unused_call_of}
use Rattle.check_findings.specs.FindingOf.{seen}
use Rattle.check_findings.proofs.calls.unused_calls.Given as goal

-- the calls so far that aren't used are found
abbrev pub invariant-loop-call : goal.invariant-loop-call
invariant-loop-call l =
    map seen l.found.items
    ≡ flat_map (unused_call_of (loads_in l.flow.deck.now) l.flow.notes.now (executed_in l.flow) (nodes_of l.flow))
    (take l.call-index l.flow.notes.now.calls)

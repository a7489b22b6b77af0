use Rattle.std.proofs.Common.{◌≡◌, ◌++◌, flat_map, map, take}
use Rattle.read_decks.specs.InDeck.{loads_in}
use Rattle.base_notes.specs.EdgeOf.{edge_of}
use Rattle.flow_graph.specs.Flow.{nodes_of}
use Rattle.check_findings.specs.FoundAt.{missing}
use Rattle.check_deck.specs.FindingsOf.{found_in}
use Rattle.check_deck.proofs.findings.Findings.add_all_missing.Given as goal

-- the edges so far that are missing were added
abbrev pub invariant-loop-edge : goal.invariant-loop-edge
invariant-loop-edge l = found_in l.self ≡ found_in l.fn.self
    ++ flat_map (missing (loads_in l.flow.deck.now) l.flow.notes.now (nodes_of l.flow))
    (map edge_of (take l.edge-index l.edges))

use Rattle.std.proofs.Common.{◌≡◌, ◌≤◌, ◌-◌, ◌^◌}
use Rattle.read_decks.specs.InDeck.{loads_in, start_in}
use Rattle.flow_graph.specs.Executed.{found_after}
use Rattle.flow_graph.specs.InNodes.{AreHeld, nodes_in}
use Rattle.flow_graph.proofs.discovery.explore.Given as goal

-- the first `turn` nodes, not too many, have added those that edges lead to from them
abbrev pub invariant-loop-node : goal.invariant-loop-node
invariant-loop-node l = record {
  after : found_after (loads_in l.deck) l.notes (start_in l.deck) l.turn ≡ nodes_in l.notes.calls l.nodes;
  held : AreHeld l.notes.calls l.nodes;
  few : l.turn ≤ 65536;
}

abbrev pub decreases-loop-node : goal.decreases-loop-node
decreases-loop-node l = 2 ^ 63 - l.turn

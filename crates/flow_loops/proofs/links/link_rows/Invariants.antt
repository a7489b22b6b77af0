use Rattle.std.proofs.Common.{◌≡◌, ℕ, ◌<◌, Some, length}
use Rattle.std.specs.Prelude.{slice_get}
use Rattle.read_decks.specs.InDeck.{loads_in}
use Rattle.base_graphs.specs.Rows.{targets_in}
use Rattle.flow_graph.specs.Flow.{nodes_of}
use Rattle.flow_graph.specs.Hops.{Node}
use Rattle.flow_loops.specs.Links.{IsLinkRow}
use Rattle.flow_loops.proofs.links.link_rows.Given as goal

-- the rows of the nodes so far
abbrev pub invariant-loop-node : goal.invariant-loop-node
invariant-loop-node l = record {
  long : length l.rows.items ≡ l.node;
  rows : (index : ℕ) → index < l.node → (from : Node) → slice_get (nodes_of l.flow) index ≡ Some from
      → IsLinkRow (loads_in l.flow.deck.now) l.flow.notes.now (nodes_of l.flow) from (targets_in l.rows.items index);
}

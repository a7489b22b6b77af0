use Rattle.std.proofs.Common.{◌≡◌, ℕ, ◌<◌, Some, length}
use Rattle.std.specs.Prelude.{slice_get}
use Rattle.read_decks.specs.InDeck.{loads_in}
use Rattle.base_graphs.specs.Rows.{targets_in}
use Rattle.flow_graph.specs.Flow.{deck_of, nodes_of, notes_of}
use Rattle.flow_graph.specs.Hops.{Node}
use Rattle.flow_acceptance.specs.Free.{IsFreeRow}
use Rattle.flow_acceptance.proofs.free.free_rows.Given as goal

-- the rows of the nodes so far
abbrev pub invariant-loop-node : goal.invariant-loop-node
invariant-loop-node l = record {
  long : length l.rows.items ≡ l.node;
  rows : (index : ℕ) (from : Node) → index < l.node → slice_get (nodes_of l.flow) index ≡ Some from
      → IsFreeRow (loads_in (deck_of l.flow)) (notes_of l.flow) (nodes_of l.flow) from (targets_in l.rows.items index);
}

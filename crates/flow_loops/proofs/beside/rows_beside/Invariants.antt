use Rattle.std.proofs.Common.{◌≡◌, ℕ, ◌<◌, length, map}
use Rattle.base_notes.specs.EdgeOf.{edge_of}
use Rattle.base_graphs.specs.Graph.{row}
use Rattle.base_graphs.specs.Rows.{targets_in}
use Rattle.flow_loops.specs.Closing.{places_in}
use Rattle.flow_loops.specs.Spared.{IsRowBeside}
use Rattle.flow_loops.proofs.beside.rows_beside.Given as goal

-- the rows of the nodes so far
abbrev pub invariant-loop-node : goal.invariant-loop-node
invariant-loop-node l = record {
  long : length l.rows.items ≡ l.node;
  rows : (node : ℕ) → node < l.node
      → IsRowBeside (places_in l.flow) (map edge_of l.edges) node (row l.graph node) (targets_in l.rows.items node);
}

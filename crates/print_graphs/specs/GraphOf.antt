-- A flow graph, as it is held.
use Rattle.std.specs.Prelude.{◌≡◌, ℕ, ◌<◌, Bool, List, map, slice_get, Some, Contains}
use Rattle.std.specs.List.{list_any}
use Rattle.base_words.specs.declared.instruction.Instruction.{Instruction}
use Rattle.base_notes.specs.Allowed.{Notes}
use Rattle.machine_steps.specs.Ways.{ways}
use Rattle.flow_graph.specs.Found.{places_of}
use Rattle.flow_graph.specs.Hops as flow
use Rattle.print_graphs.specs.declared.graph.Graph.{Graph}
use Rattle.print_graphs.specs.declared.closing.Ends.{Ends}
use Rattle.print_graphs.specs.declared.closing.ClosingEdges.{ClosingEdges}
use Rattle.print_graphs.specs.declared.node.Node as held
use Rattle.print_graphs.specs.Graph.{Node, stops}

-- what is drawn as a box, by its numbers
abbrev pub node_of : held.Node → Node
node_of node = record {
  place = node.location.number;
  further = map (λ location. location.number) node.further.items;
  operations = node.operations.items;
  is_listed = node.is_listed;
  is_unfit = node.is_unfit;
  may_stop = node.may_stop;
  nexts = places_of node.nexts;
  written = places_of node.written;
}

-- all of them, in order
abbrev pub nodes_in : Graph → List Node
nodes_in graph = map node_of graph.nodes.items

-- where an edge leads from, and where it leads
abbrev pub edge_in : Ends → ℕ × ℕ
edge_in ends = (ends.from.number, ends.onto.number)

-- the edges that close loops
abbrev pub edges_in : ClosingEdges → List (ℕ × ℕ)
edges_in loops = map edge_in loops.edges.keys.items

abbrev pub loops_in : Graph → List (ℕ × ℕ)
loops_in graph = edges_in graph.loops

-- where the deck starts
abbrev pub start_of : Graph → ℕ
start_of graph = graph.start.number

-- whether an instruction, with an operation of the profile, may stop the run
abbrev pub has_stop_by : Notes → Instruction → Bool
has_stop_by notes ins = list_any stops (ways notes ins)

-- These are the indices of the nodes of a flow graph at a location, of the first so many.
pub record AreAt (nodes : List flow.Node) (count place : ℕ) (indices : List ℕ) : Type 0 where
  pub only : (index : ℕ) → Contains indices index
      → (node : flow.Node) × (slice_get nodes index ≡ Some node) × (node.place ≡ place)
  pub all : (index : ℕ) (node : flow.Node) → index < count → slice_get nodes index ≡ Some node
      → node.place ≡ place → Contains indices index

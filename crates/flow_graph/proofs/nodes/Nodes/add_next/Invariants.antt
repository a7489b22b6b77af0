use Rattle.std.proofs.Common.{◌≡◌, ◌++◌, List, map, take}
use Rattle.std.specs.Prelude.{flat_map}
use Rattle.base_words.specs.declared.location.Location.{Location}
use Rattle.machine_steps.specs.declared.open.Open.{Open}
use Rattle.flow_graph.specs.Executed.{onward, same_node, with_new_by}
use Rattle.flow_graph.specs.InNodes.{AreHeld, node_in, nodes_in}
use Rattle.flow_graph.proofs.nodes.Nodes.add_next.Given as goal

-- the nodes of the targets so far are added
abbrev pub invariant-loop-onto : goal.invariant-loop-onto
invariant-loop-onto l = record {
  added : nodes_in l.notes.calls l.self ≡ with_new_by same_node (nodes_in l.notes.calls l.fn.self)
      (flat_map (onward l.notes (node_in l.notes.calls l.fn.self l.from))
      (map (λ (location : Location). location.number) (take l.onto-index l.onto-items)));
  held : AreHeld l.notes.calls l.self;
  more : List Open;
  kept : l.self.openings.items ≡ l.fn.self.openings.items ++ more;
}

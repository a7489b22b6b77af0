-- Of add_onward: what is open at the node is what its index says, so the step may go along the edge, or
-- not, as the definitions have it; and what is open behind it has an index of its own.
use Rattle.std.proofs.Common.{ℕ, List, Option, ap, sym, subst, []}
use Rattle.std.specs.Prelude.{slice_index_or}
use Rattle.machine_steps.specs.Calls.{open_after, MayGo}
use Rattle.machine_steps.specs.OpenIn.{open_in}
use Rattle.base_notes.specs.declared.notes.call.Call.{Call}
use Rattle.flow_graph.specs.Executed.{same_node, with_new_by}
use Rattle.flow_graph.specs.InNodes.{ArePlacedIn, node_in, nodes_in, ways_in}
use Rattle.flow_graph.specs.Hops.{edge_between}
use Rattle.flow_graph.proofs.InNodesLaws.{none_onward, onward_added, ways_of_one, within_added}
use Rattle.flow_graph.proofs.nodes.Nodes.add_onward.Goals as goal

-- the index of what is open behind the step
placed : (c : goal.In_ok-add)
    → ArePlacedIn c.args.notes.now.calls c.args.self.now.openings.items c.index_behind.new.openings.items
    (open_after c.args.notes.now.calls (edge_between c.args.from.location.number c.args.onto.number)
    (node_in c.args.notes.now.calls c.args.self.now c.args.from).ways) c.in_ok-opening.opening
placed c =
    let before = c.args.self.now.openings.items in
    let edge = edge_between c.args.from.location.number c.args.onto.number in
    subst (λ (cs : List Call). ArePlacedIn cs before c.index_behind.new.openings.items
    (open_after cs edge (slice_index_or (ways_in cs before) c.args.from.opening [])) c.in_ok-opening.opening)
    c.calls-calls.ensures.all c.in_ok-opening.ensures

pub returns-clause-nodes : goal.returns-clause-nodes
returns-clause-nodes c =
    let calls = c.args.notes.now.calls in
    let self = c.args.self.now in
    let edge = edge_between c.args.from.location.number c.args.onto.number in
    let one = c.index.result.now in
    let may : MayGo calls (open_in one calls) edge =
    subst (λ (cs : List Call). MayGo cs (open_in one cs) edge) c.calls-calls.ensures.all c.if-not-may_go.ensures in
    onward_added c.args.notes.now self.openings.items c.index_behind.new.openings.items self.nodes.keys.items
    c.add.new.self.keys.items c.args.from c.args.onto c.in_ok-opening.opening c.requires.held.different c.requires.held.within
    (subst (λ (ways : List (Option ℕ)). MayGo calls ways edge)
    (sym (ways_of_one calls self.openings.items c.args.from.opening one c.requires.from c.index.ensures)) may)
    (placed c) c.in_ok-add.ensures.keys

pub returns-clause-held : goal.returns-clause-held
returns-clause-held c =
    let self = c.args.self.now in
    let is = placed c in
    record {
      within = within_added c.args.notes.now.calls self.openings.items c.index_behind.new.openings.items self.nodes.keys.items
          c.add.new.self.keys.items (record { location = c.args.onto; opening = c.in_ok-opening.opening }) _
          c.requires.held.within is c.in_ok-add.ensures.keys;
      different = is.different c.requires.held.different;
    }

pub returns-then-not-may_go-clause-nodes : goal.returns-then-not-may_go-clause-nodes
returns-then-not-may_go-clause-nodes c =
    let calls = c.args.notes.now.calls in
    let self = c.args.self.now in
    let edge = edge_between c.args.from.location.number c.args.onto.number in
    let one = c.index.result.now in
    let node = node_in calls self c.args.from in
    let not_so : MayGo calls node.ways edge → ⊥ = λ may. c.if-not-may_go.ensures
    (subst (λ (cs : List Call). MayGo cs (open_in one cs) edge) (sym c.calls-calls.ensures.all)
    (subst (λ (ways : List (Option ℕ)). MayGo calls ways edge)
    (ways_of_one calls self.openings.items c.args.from.opening one c.requires.from c.index.ensures) may)) in
    ap (with_new_by same_node (nodes_in calls self)) (sym (none_onward c.args.notes.now node c.args.onto.number not_so))

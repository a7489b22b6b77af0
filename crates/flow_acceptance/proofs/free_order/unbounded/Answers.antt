-- Of unbounded: a cycle of the graph is a cycle of nodes by edges free of marks. It has no node twice, so
-- there are no more than the flow graph has; and they can be turned to begin with the smallest.
use Rattle.std.proofs.Common.{ℕ, ◌<◌, List, length, Contains, ap, subst, arith}
use Rattle.std.proofs.lemmas.List.{length-map}
use Rattle.base_words.specs.declared.location.Location.{Location}
use Rattle.read_decks.specs.InDeck.{loads_in, start_in}
use Rattle.base_graphs.specs.Graph.{row, size}
use Rattle.flow_graph.specs.Flow.{deck_of, nodes_of, notes_of}
use Rattle.flow_graph.specs.InNodes.{node_of}
use Rattle.flow_graph.specs.Hops.{Node}
use Rattle.flow_graph.specs.Turned.{IsTurned}
use Rattle.flow_graph.proofs.Founds.{few_below, numbers}
use Rattle.flow_acceptance.specs.Free.{those_at}
use Rattle.flow_acceptance.proofs.Translations.{cycle_free, cycle_some, those_long}
use Rattle.flow_acceptance.proofs.free_order.unbounded.Goals as goal

pub locations_at-requires : goal.locations_at-requires
locations_at-requires c index there = omega (arith, c.requires.cycle.within index there, c.requires.size)

-- the nodes of the cycle
abbrev round : (c : goal.In-Ok) → List Node
round c = those_at (nodes_of c.args.flow.now) c.args.cycle.now

pub turned-requires-clause-some : goal.turned-requires-clause-some
turned-requires-clause-some c =
    let locations = c.in-Ok.locations in
    omega (
      arith,
      cycle_some (row c.args.graph.now) c.args.cycle.now c.requires.cycle.closed,
      ap (λ (ns : List ℕ). length ns) c.in-Ok.ensures,
      length-map locations.items (λ (one : Location). one.number),
      length-map (those_at (nodes_of c.args.flow.now) c.args.cycle.now) (λ (one : Node). one.place),
      those_long (nodes_of c.args.flow.now) c.args.cycle.now
          (λ index there. omega (arith, c.requires.cycle.within index there, c.requires.size)),
      locations.ok.0,
    )

pub turned-requires-clause-few : goal.turned-requires-clause-few
turned-requires-clause-few c =
    let flow = c.args.flow.now in
    let locations = c.in-Ok.locations in
    let inside : (index : ℕ) → Contains c.args.cycle.now index → index < length (nodes_of flow) =
    λ index there. omega (arith, c.requires.cycle.within index there, c.requires.size) in
    omega (
      arith,
      few_below c.args.cycle.now (length (nodes_of flow)) c.requires.cycle.distinct inside,
      flow.few,
      length-map flow.nodes.nodes.keys.items (node_of (notes_of flow).calls flow.nodes.openings.items),
      those_long (nodes_of flow) c.args.cycle.now inside,
      ap (λ (ns : List ℕ). length ns) c.in-Ok.ensures,
      length-map (those_at (nodes_of flow) c.args.cycle.now) (λ (one : Node). one.place),
      length-map locations.items (λ (one : Location). one.number),
      locations.ok.0,
    )

pub returns-in-Ok : goal.returns-in-Ok
returns-in-Ok c =
    let flow = c.args.flow.now in
    let turned = numbers c.turned.result.locations.items in
    cycle_free (loads_in (deck_of flow)) (notes_of flow) (nodes_of flow) (row c.args.graph.now) c.requires.rows
    (start_in (deck_of flow)) c.requires.nodes (size c.args.graph.now) c.args.cycle.now turned c.requires.size
    c.requires.cycle
    (subst (λ (ns : List ℕ). IsTurned ns turned) c.in-Ok.ensures c.turned.ensures)

use Rattle.std.proofs.lemmas.Option.{slice_get-map}
use Rattle.std.specs.Prelude.{option_map}
use Rattle.std.proofs.Common.{refl, ap, ◌∙◌}
use Rattle.flow_graph.specs.InNodes.{node_in}
use Rattle.flow_graph.proofs.flow_graph.Flow.location.Goals as goal

pub returns : goal.returns
returns c =
    let flow = c.args.self.now in
    let view = node_in flow.notes.now.calls flow.nodes in (
      view c.at.result,
      slice_get-map view flow.nodes.nodes.keys.items c.args.node ∙ ap (option_map view) c.at.ensures.value,
      refl,
    )

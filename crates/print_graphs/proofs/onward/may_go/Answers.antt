use Rattle.read_decks.specs.InDeck.{loads_in, start_in}
use Rattle.flow_graph.specs.Flow.{nodes_of}
use Rattle.flow_acceptance.proofs.FreeRows.{some_at}
use Rattle.print_graphs.proofs.Taken.{goes_as_found}
use Rattle.print_graphs.proofs.onward.may_go.Goals as goal

pub returns : goal.returns
returns c =
    let flow = c.args.flow.now in
    let from = some_at (nodes_of flow) c.args.node c.requires.here in (
      from.0,
      from.1,
      goes_as_found (loads_in flow.deck.now) flow.notes.now (start_in flow.deck.now) (nodes_of flow) c.requires.nodes
          c.args.node c.onward.result c.is_some.result from.0 c.args.onto.number from.1
          (c.requires.edge from.0 from.1) c.is_some.ensures c.onward.ensures.found c.onward.ensures.none,
    )

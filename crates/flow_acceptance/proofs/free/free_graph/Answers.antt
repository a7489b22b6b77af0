use Rattle.read_decks.specs.InDeck.{loads_in}
use Rattle.flow_graph.specs.Flow.{deck_of, nodes_of, notes_of}
use Rattle.flow_acceptance.proofs.FreeRows.{rows_within}
use Rattle.flow_acceptance.proofs.free.free_graph.Goals as goal

pub new-requires : goal.new-requires
new-requires c =
    let flow = c.args.flow.now in
    rows_within (loads_in (deck_of flow)) (notes_of flow) (nodes_of flow) c.in_ok-rows.rows.items
    c.in_ok-rows.ensures.long c.in_ok-rows.ensures.rows

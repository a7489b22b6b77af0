use Rattle.read_decks.specs.InDeck.{loads_in}
use Rattle.flow_graph.specs.Flow.{nodes_of}
use Rattle.flow_loops.proofs.LinkRows.{links_within}
use Rattle.flow_loops.proofs.links.link_graph.Goals as goal

pub new-requires : goal.new-requires
new-requires c =
    let flow = c.args.flow.now in
    links_within (loads_in flow.deck.now) flow.notes.now (nodes_of flow) c.in_ok-rows.rows.items
    c.in_ok-rows.ensures.long c.in_ok-rows.ensures.rows

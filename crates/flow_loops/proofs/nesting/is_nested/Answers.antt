-- Of is_nested: what is so of the indices is so of the flow graph's nodes.
use Rattle.std.proofs.Common.{◌≡◌, true, false, sym, ◌∙◌}
use Rattle.std.specs.Prelude.{IsTrue, ◌↔◌}
use Rattle.std.proofs.lemmas.Result.{IfOk-weaker}
use Rattle.read_decks.specs.InDeck.{loads_in, start_in}
use Rattle.base_notes.specs.EdgeOf.{edge_of}
use Rattle.base_graphs.specs.Graph.{row, size}
use Rattle.flow_graph.specs.Flow.{nodes_of, of_flow}
use Rattle.flow_loops.specs.Closing.{places_in}
use Rattle.flow_loops.specs.Nested.{IsNested}
use Rattle.flow_loops.specs.Reached.{OneLeadsAbout}
use Rattle.flow_loops.proofs.Nestings.{has_first, nested_by, not_entered}
use Rattle.flow_loops.proofs.nesting.is_nested.Goals as goal

pub is_entered_by-requires-clause-first : goal.is_entered_by-requires-clause-first
is_entered_by-requires-clause-first c =
    let flow = c.args.flow.now in
    has_first (loads_in flow.deck.now) flow.notes.now (start_in flow.deck.now) (nodes_of flow) (row c.args.graph.now)
    (size c.args.graph.now) c.requires.nodes c.requires.rows c.requires.size

pub returns-then-not-branch : goal.returns-then-not-branch
returns-then-not-branch c =
    let flow = c.args.flow.now in
    not_entered (loads_in flow.deck.now) flow.notes.now (start_in flow.deck.now) (nodes_of flow) (row c.args.graph.now)
    (size c.args.graph.now) c.requires.nodes c.requires.rows c.requires.size (edge_of c.args.outer)
    (edge_of c.args.inner)
    (λ entered. let clash : false ≡ true = sym c.if-not-branch.true ∙ c.in_ok-is_entered_by.ensures.1 entered in cc)

pub returns : goal.returns
returns c =
    let flow = c.args.flow.now in
    let graph = c.args.graph.now in
    let outer = edge_of c.args.outer in
    let inner = edge_of c.args.inner in
    IfOk-weaker c.one_goes_round.result
    (λ round. IsTrue round ↔ OneLeadsAbout (row graph) (places_in flow) outer inner (size graph))
    (λ nested. IsTrue nested ↔ of_flow IsNested flow outer inner)
    (λ round is.
    nested_by (loads_in flow.deck.now) flow.notes.now (start_in flow.deck.now) (nodes_of flow) (row graph) (size graph)
    c.requires.nodes c.requires.rows c.requires.size outer inner
    (λ same. c.if-number.false (c.number.ensures ∙ same ∙ sym c.number-2.ensures))
    (c.in_ok-is_entered_by.ensures.0 c.if-not-branch.false) round is) c.one_goes_round.ensures

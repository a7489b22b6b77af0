-- Of may_go_on: a step leads from the node to another one just where it may go.
use Rattle.std.proofs.Common.{◌≡◌, ℕ, true, ap, sym, ◌∙◌, subst}
use Rattle.std.proofs.lemmas.Option.{same_Some}
use Rattle.read_decks.specs.InDeck.{loads_in, start_in}
use Rattle.base_graphs.proofs.Lists.{contains_from_get}
use Rattle.flow_graph.specs.Executed.{successors}
use Rattle.flow_graph.specs.Flow.{nodes_of}
use Rattle.flow_graph.specs.Hops.{Node}
use Rattle.flow_graph.specs.Taken.{is_among}
use Rattle.check_findings.proofs.Steps.{not_same, stands_elsewhere, stands_so, step_told}
use Rattle.check_findings.proofs.edges.may_go_on.Goals as goal

pub returns-then-number : goal.returns-then-number
returns-then-number c one at =
    let flow = c.args.flow.now in
    let loads = loads_in flow.deck.now in
    let notes = flow.notes.now in
    let from = c.args.from.number in
    let onto = c.args.onto.number in
    let own : c.location.ensures.0 ≡ one = same_Some c.location.ensures.0 one (sym c.location.ensures.1 ∙ at) in
    let place : one.place ≡ from =
    sym (c.location.ensures.2 ∙ ap (λ (n : Node). n.place) own) ∙ sym c.number.ensures ∙ c.if-number.true
    ∙ c.number-2.ensures in
    stands_so notes one onto from c.is_some.result place
    (c.is_some.ensures ∙ step_told notes one onto loads (start_in flow.deck.now) (nodes_of flow) c.requires.nodes
    (contains_from_get (nodes_of flow) c.args.node one at)
    (subst (λ (p : ℕ). is_among (successors loads notes p) onto ≡ true) (sym place) c.requires.goes) c.args.node at
    c.onward.result c.onward.ensures.found c.onward.ensures.none)

pub returns-else-number : goal.returns-else-number
returns-else-number c one at =
    let own : c.location.ensures.0 ≡ one = same_Some c.location.ensures.0 one (sym c.location.ensures.1 ∙ at) in
    let place : c.location.result.number ≡ one.place = c.location.ensures.2 ∙ ap (λ (n : Node). n.place) own in
    stands_elsewhere c.args.flow.now.notes.now one c.args.onto.number c.args.from.number _
    (λ same. c.if-number.false (c.number.ensures ∙ place ∙ same ∙ sym c.number-2.ensures))
    (not_same c.number.result c.number-2.result c.if-number.false)

-- Of leads_out: it stands where the edge begins, and has the edge; or it stands elsewhere.
use Rattle.std.proofs.Common.{ℕ, List, sym, ◌∙◌, subst, arith}
use Rattle.std.specs.Prelude.{Contains, IsTrue, ◌↔◌}
use Rattle.base_graphs.specs.Graph.{row}
use Rattle.flow_loops.specs.Closing.{places_in}
use Rattle.flow_loops.specs.Reached.{HasSuch, IsAt}
use Rattle.flow_loops.proofs.Suches.{both_so, neither_so, place_told}
use Rattle.flow_loops.proofs.nesting.leads_out.Goals as goal

pub one_is_at-requires : goal.one_is_at-requires
one_is_at-requires c node there =
    let inside = c.args.graph.now.within c.args.node node
    (subst (λ (nodes : List ℕ). Contains nodes node) c.row.ensures there) in
    omega (arith, inside, c.requires.size)

pub returns-then-number : goal.returns-then-number
returns-then-number c =
    let flow = c.args.flow.now in
    let nexts = row c.args.graph.now c.args.node in
    let IsOnto = IsAt (places_in flow) c.args.edge.onto.number in
    both_so c.one_is_at.result (IsAt (places_in flow) c.args.edge.from.number c.args.node) (HasSuch IsOnto nexts)
    (place_told flow c.args.node c.location.result.number c.location.ensures ∙ sym c.number.ensures ∙ c.if-number.true
    ∙ c.number-2.ensures)
    (subst (λ (nodes : List ℕ). IsTrue c.one_is_at.result ↔ HasSuch IsOnto nodes) c.row.ensures c.one_is_at.ensures)

pub returns-else-number : goal.returns-else-number
returns-else-number c =
    let flow = c.args.flow.now in
    neither_so c.number.result c.number-2.result (IsAt (places_in flow) c.args.edge.from.number c.args.node)
    (HasSuch (IsAt (places_in flow) c.args.edge.onto.number) (row c.args.graph.now c.args.node)) c.if-number.false
    (λ at. c.if-number.false
    (c.number.ensures ∙ sym (place_told flow c.args.node c.location.result.number c.location.ensures) ∙ at
    ∙ sym c.number-2.ensures))

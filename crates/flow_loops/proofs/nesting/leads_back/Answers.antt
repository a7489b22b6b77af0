-- Of leads_back: it stands there, and the other is in its row; or it stands elsewhere.
use Rattle.std.proofs.Common.{◌≡◌, eqb, sym, ap, ◌∙◌}
use Rattle.std.specs.Prelude.{Contains, IsTrue, ◌↔◌}
use Rattle.std.specs.List.{list_any}
use Rattle.base_graphs.specs.Graph.{row}
use Rattle.flow_graph.proofs.Orders.{any_contains, contains_any}
use Rattle.flow_loops.specs.Closing.{places_in}
use Rattle.flow_loops.specs.Reached.{IsAt}
use Rattle.flow_loops.proofs.Suches.{both_so, neither_so, place_told}
use Rattle.flow_loops.proofs.nesting.leads_back.Goals as goal

pub returns-then-number : goal.returns-then-number
returns-then-number c =
    let flow = c.args.flow.now in
    let nexts = row c.args.graph.now c.args.node in
    let back = c.args.back in
    let at : IsAt (places_in flow) c.args.from.number c.args.node =
    place_told flow c.args.node c.location.result.number c.location.ensures ∙ sym c.number.ensures ∙ c.if-number.true
    ∙ c.number-2.ensures in
    let value : c.contains.result ≡ list_any (λ one. eqb one back) nexts =
    c.contains.ensures.value ∙ ap (list_any (λ one. eqb one back)) c.row.ensures in
    let told : IsTrue c.contains.result ↔ Contains nexts back =
    (λ yes. any_contains nexts back (sym value ∙ yes), λ there. value ∙ contains_any nexts back there) in
    both_so c.contains.result (IsAt (places_in flow) c.args.from.number c.args.node) (Contains nexts back) at told

pub returns-else-number : goal.returns-else-number
returns-else-number c =
    let flow = c.args.flow.now in
    neither_so c.number.result c.number-2.result (IsAt (places_in flow) c.args.from.number c.args.node)
    (Contains (row c.args.graph.now c.args.node) c.args.back) c.if-number.false
    (λ at. c.if-number.false
    (c.number.ensures ∙ sym (place_told flow c.args.node c.location.result.number c.location.ensures) ∙ at
    ∙ sym c.number-2.ensures))

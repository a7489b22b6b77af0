-- Of goes_round: what was reached are the nodes that are led to past the outer head.
use Rattle.std.proofs.Common.{◌≡◌, ℕ, true, false, List, subst}
use Rattle.std.specs.Prelude.{Contains, IsTrue, ◌↔◌}
use Rattle.base_notes.specs.EdgeOf.{edge_of}
use Rattle.base_graphs.specs.Graph.{row}
use Rattle.flow_loops.specs.Closing.{places_in}
use Rattle.flow_loops.specs.Reached.{HasSuch, LeadsBack, LeadsOut, LeadsPast, LeadsToSuch, nodes_in}
use Rattle.flow_loops.proofs.Suches.{denied, such_said}
use Rattle.flow_loops.proofs.nesting.goes_round.Goals as goal

pub one_leads_back-requires-clause-within : goal.one_leads_back-requires-clause-within
one_leads_back-requires-clause-within c node there =
    c.in_ok-reached.ensures.within node (subst (λ (nodes : List ℕ). Contains nodes node) c.deref.ensures.value there)

pub returns-then-not-one_leads_back : goal.returns-then-not-one_leads_back
returns-then-not-one_leads_back c =
    let graph = row c.args.graph.now in
    let places = places_in c.args.flow.now in
    let IsSuch : ℕ → Type 0 = LeadsBack graph places c.args.inner.from.number c.args.node in
    let said = such_said IsSuch (LeadsPast graph places c.args.outer.onto.number c.args.node)
    (nodes_in c.in_ok-reached.reached) c.in_ok-reached.ensures.reached c.one_leads_back.result
    (subst (λ (nodes : List ℕ). IsTrue c.one_leads_back.result ↔ HasSuch IsSuch nodes) c.deref.ensures.value
    c.one_leads_back.ensures) in (
      λ yes. let clash : false ≡ true = yes in cc,
      λ about. absurd (denied c.one_leads_back.result
          (LeadsToSuch graph places c.args.outer.onto.number c.args.node IsSuch) c.if-not-one_leads_back.true said about.back),
    )

pub one_leads_out-requires-clause-within : goal.one_leads_out-requires-clause-within
one_leads_out-requires-clause-within c node there =
    c.in_ok-reached.ensures.within node (subst (λ (nodes : List ℕ). Contains nodes node) c.deref-2.ensures.value there)

pub returns : goal.returns
returns c =
    let graph = row c.args.graph.now in
    let places = places_in c.args.flow.now in
    let reached = nodes_in c.in_ok-reached.reached in
    let IsBack : ℕ → Type 0 = LeadsBack graph places c.args.inner.from.number c.args.node in
    let IsOut : ℕ → Type 0 = LeadsOut graph places (edge_of c.args.outer) in
    let Leads : ℕ → Type 0 = LeadsPast graph places c.args.outer.onto.number c.args.node in
    let back = such_said IsBack Leads reached c.in_ok-reached.ensures.reached c.one_leads_back.result
    (subst (λ (nodes : List ℕ). IsTrue c.one_leads_back.result ↔ HasSuch IsBack nodes) c.deref.ensures.value
    c.one_leads_back.ensures) in
    let out = such_said IsOut Leads reached c.in_ok-reached.ensures.reached c.one_leads_out.result
    (subst (λ (nodes : List ℕ). IsTrue c.one_leads_out.result ↔ HasSuch IsOut nodes) c.deref-2.ensures.value
    c.one_leads_out.ensures) in (
      λ yes. record { back = back.0 c.if-not-one_leads_back.false; out = out.0 yes },
      λ about. out.1 about.out,
    )

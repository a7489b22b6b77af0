-- Of without: those so far are kept, but for the edge itself.
use Rattle.std.proofs.Common.{◌≡◌, ◌+◌, ◌++◌, ◌∷◌, ℕ, List, map, take, ap, sym, ◌∙◌, subst, []}
use Rattle.std.proofs.lemmas.List.{map_push}
use Rattle.base_notes.specs.EdgeOf.{edge_of}
use Rattle.flow_loops.specs.Spared.{AreWithout}
use Rattle.flow_loops.proofs.Besides.{edges_taken, leads_other, leads_same}
use Rattle.flow_loops.proofs.Sparings.{without_it, without_more}
use Rattle.flow_loops.proofs.sparing.without.Goals as goal

pub loop-one-preserved-then-leads : goal.loop-one-preserved-then-leads
loop-one-preserved-then-leads c =
    let edges = c.args.edges.now in
    let k = c.loop-one.one-index in
    let one = c.one-item.result in
    let edge = edge_of c.args.edge in
    let others = map edge_of c.loop-one.others.items in
    subst (λ (all : List (ℕ × ℕ)). AreWithout all edge others)
    (sym (edges_taken edges k one c.loop-one-test.true c.one-item.is))
    (without_it (map edge_of (take k edges)) edge others (edge_of one) c.loop-one.invariant
    (leads_same edge.0 edge.1 (edge_of one) (sym c.leads.ensures ∙ c.if-leads.true)))

pub loop-one-preserved : goal.loop-one-preserved
loop-one-preserved c =
    let edges = c.args.edges.now in
    let k = c.loop-one.one-index in
    let one = c.one-item.result in
    let edge = edge_of c.args.edge in
    let others = map edge_of c.loop-one.others.items in
    let pushed : map edge_of c.push.new.self.items ≡ others ++ edge_of one ∷ [] =
    ap (map edge_of) c.in_ok-push.ensures.items ∙ map_push edge_of c.loop-one.others.items one in
    subst (AreWithout (map edge_of (take (k + 1) edges)) edge) (sym pushed)
    (subst (λ (all : List (ℕ × ℕ)). AreWithout all edge (others ++ edge_of one ∷ []))
    (sym (edges_taken edges k one c.loop-one-test.true c.one-item.is))
    (without_more (map edge_of (take k edges)) edge others (edge_of one) c.loop-one.invariant
    (leads_other edge.0 edge.1 (edge_of one) (sym c.leads.ensures ∙ c.if-leads.false))))

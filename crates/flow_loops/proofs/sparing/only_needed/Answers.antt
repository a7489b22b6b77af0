-- Of only_needed: what is kept is enough, and all of it is needed but for the edges that are left to
-- be tried.
use Rattle.std.proofs.Common.{◌≡◌, ◌∷◌, ◌++◌, ℕ, List, map, ap, ◌∙◌, subst, []}
use Rattle.std.proofs.lemmas.List.{map_push}
use Rattle.read_decks.specs.InDeck.{loads_in, start_in}
use Rattle.base_notes.specs.declared.notes.edge.Edge.{Edge}
use Rattle.base_notes.specs.EdgeOf.{edge_of}
use Rattle.flow_loops.specs.Spared.{AreEnough, AreSpared, AreWithout, LackSome}
use Rattle.flow_loops.proofs.Sparings.{spared_kept, spared_out}
use Rattle.flow_loops.proofs.sparing.only_needed.Goals as goal

pub loop-edge-preserved-then-branch : goal.loop-edge-preserved-then-branch
loop-edge-preserved-then-branch c =
    let flow = c.args.flow.now in
    let loads = loads_in flow.deck.now in
    let start = start_in flow.deck.now in
    let kept = map edge_of c.loop-edge.kept.items in
    let left = map edge_of c.pop.new.self.items in
    let edge = edge_of c.in-Some.edge in
    let others = map edge_of c.in_ok-others.others.items in
    let split : map edge_of c.loop-edge.left.items ≡ left ++ edge ∷ [] =
    ap (map edge_of) c.in-Some.ensures.items ∙ map_push edge_of c.pop.new.self.items c.in-Some.edge in
    let without : AreWithout kept edge others =
    subst (λ (edges : List Edge). AreWithout (map edge_of edges) edge others) c.deref-in-Some.ensures.value
    c.in_ok-others.ensures in
    spared_out loads flow.notes.now start left kept others edge
    (subst (λ (all : List (ℕ × ℕ)). AreSpared loads flow.notes.now start all kept) split c.loop-edge.invariant) without
    (subst (λ (edges : List Edge). AreEnough loads flow.notes.now start (map edge_of edges))
    c.deref-in-Some-2.ensures.value
    (c.in_ok-are_enough.ensures.enough c.if-branch.true))

pub loop-edge-preserved : goal.loop-edge-preserved
loop-edge-preserved c =
    let flow = c.args.flow.now in
    let loads = loads_in flow.deck.now in
    let start = start_in flow.deck.now in
    let kept = map edge_of c.loop-edge.kept.items in
    let left = map edge_of c.pop.new.self.items in
    let edge = edge_of c.in-Some.edge in
    let others = map edge_of c.in_ok-others.others.items in
    let split : map edge_of c.loop-edge.left.items ≡ left ++ edge ∷ [] =
    ap (map edge_of) c.in-Some.ensures.items ∙ map_push edge_of c.pop.new.self.items c.in-Some.edge in
    let without : AreWithout kept edge others =
    subst (λ (edges : List Edge). AreWithout (map edge_of edges) edge others) c.deref-in-Some.ensures.value
    c.in_ok-others.ensures in
    spared_kept loads flow.notes.now start left kept others edge
    (subst (λ (all : List (ℕ × ℕ)). AreSpared loads flow.notes.now start all kept) split c.loop-edge.invariant) without
    (subst (λ (edges : List Edge). LackSome loads flow.notes.now start (map edge_of edges))
    c.deref-in-Some-2.ensures.value
    (c.in_ok-are_enough.ensures.lacks c.if-branch.false))

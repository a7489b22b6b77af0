use Rattle.std.proofs.Common.{◌∷◌, [], ◌++◌, ℕ, List, map, ap, sym, ◌∙◌, subst}
use Rattle.std.specs.Prelude.{All}
use Rattle.std.proofs.lemmas.List.{map_push}
use Rattle.std.proofs.lemmas.List.Elements.{All-push}
use Rattle.base_notes.specs.EdgeOf.{edge_of}
use Rattle.check_deck.specs.declared.loops.Counted.{Counted}
use Rattle.check_deck.specs.FindingsOf.{IsInsideIn}
use Rattle.check_deck.specs.Insides.{AreSoMany}
use Rattle.check_deck.proofs.Numbered.{edges_more}
use Rattle.check_deck.proofs.loops.with_counts.Goals as goal

abbrev edge_in : Counted → ℕ × ℕ
edge_in one = edge_of one.edge

pub loop-edge-preserved : goal.loop-edge-preserved
loop-edge-preserved c =
    let edges = c.args.edges.now in
    let old = c.loop-edge.counted.items in
    let edge = c.edge-item.result in
    let one : Counted = record { edge = edge; many = c.in_ok-many.many } in
    let P : Counted → Type 0 = λ one. AreSoMany (λ outer. IsInsideIn c.args.nesting.now.flow.now outer (edge_of one.edge))
    (map edge_of edges) one.many in
    record {
      same =
          ap (map edge_in) c.in_ok-push.ensures.items ∙ map_push edge_in old one
          ∙ ap (λ (all : List (ℕ × ℕ)). all ++ edge_of edge ∷ []) c.loop-edge.invariant.same
          ∙ sym (edges_more edge_of edges c.loop-edge.edge-index edge c.loop-edge-test.true c.edge-item.is);
      counts =
          subst (All P) (sym c.in_ok-push.ensures.items) (All-push P old one c.loop-edge.invariant.counts c.in_ok-many.ensures);
    }

-- Of ClosingEdges::of: no edge stands twice, so each is new, and goes behind those that are there.
use Rattle.std.proofs.Common.{◌≡◌, ℕ, false, List, [], ◌∷◌, ◌++◌, map, refl, ap, sym, ◌∙◌, Some}
use Rattle.std.specs.Prelude.{slice_get}
use Rattle.base_notes.specs.EdgeOf.{edge_of}
use Rattle.print_graphs.specs.contracts.closing.EndsPartialEq.TheImpl.{eq-value}
use Rattle.print_graphs.specs.declared.closing.Ends.{Ends}
use Rattle.print_graphs.specs.GraphOf.{edge_in}
use Rattle.print_graphs.specs.GraphText.{is_loop}
use Rattle.print_graphs.proofs.Edges.{added, edge_at, none_before, one_more}
use Rattle.print_graphs.proofs.closing.ClosingEdges.of.Goals as goal

pub loop-edge-preserved : goal.loop-edge-preserved
loop-edge-preserved c =
    let edges = map edge_of c.args.edges.now in
    let k = c.loop-edge.edge-index in
    let edge = c.edge-item.result in
    let before = c.loop-edge.ends.keys.items in
    let one : Ends = record { from = edge.from; onto = edge.onto } in
    let at : slice_get edges k ≡ Some (edge_of edge) =
    edge_at c.args.edges.now k edge c.loop-edge-test.true c.edge-item.is in
    let new : is_loop (map edge_in before) edge.from.number edge.onto.number ≡ false =
    ap (λ (those : List (ℕ × ℕ)). is_loop those edge.from.number edge.onto.number) c.loop-edge.invariant
    ∙ none_before edges k (edge_of edge) c.requires at in
    ap (map edge_in) c.in_ok-add.ensures.keys ∙ added eq-value.it (λ a b. refl) before one new
    ∙ ap (λ (those : List (ℕ × ℕ)). those ++ edge_of edge ∷ []) c.loop-edge.invariant
    ∙ sym (one_more edges k (edge_of edge) at)

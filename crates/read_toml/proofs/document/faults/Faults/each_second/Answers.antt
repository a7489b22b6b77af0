use Rattle.std.proofs.Common.{◌≡◌, Bool, cond, [], ◌∷◌, map, take, ap, arith}
use Rattle.std.proofs.lemmas.Grind.{common_steps}
use Rattle.base_notes.specs.EdgeOf.{edge_of}
use Rattle.read_toml.specs.Document.{two_marks}
use Rattle.read_toml.specs.NotesDocument.{has_edge}
use Rattle.read_toml.proofs.Adding.{one_step, adds_same}
use Rattle.read_toml.proofs.Repeating.{edges_left}
use Rattle.read_toml.proofs.document.faults.Faults.each_second.Goals as goal

pub loop-place-preserved : goal.loop-place-preserved
loop-place-preserved c =
    let edge = c.index-edges-place.result in
    let again : c.has_edge-again.result
    ≡ has_edge (map edge_of (take c.loop-place.place c.args.edges.now)) (edge_of edge) =
    grind (arith, common_steps) in
    one_step _ _ _ _ _ _ _ c.loop-place.invariant
    (edges_left c.args.edges.now c.loop-place.place edge c.loop-place-test.true c.index-edges-place.is)
    (adds_same _ _ _ _ (ap (λ (b : Bool). cond b (two_marks edge.from.number edge.onto.number ∷ []) []) again)
    c.in_ok-second_edge.ensures)

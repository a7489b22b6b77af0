use Rattle.read_toml.proofs.Adding.{one_step}
use Rattle.read_toml.proofs.EdgeValues.{edges_left}
use Rattle.read_toml.proofs.document.faults.Faults.each_edge.Goals as goal

pub loop-place-preserved : goal.loop-place-preserved
loop-place-preserved c =
    one_step _ _ _ _ _ _ _ c.loop-place.invariant
    (edges_left c.args.path.now c.args.items.now c.loop-place.place c.index-items-place.result
    c.loop-place-test.true c.index-items-place.is)
    c.in_ok-edge.ensures

use Rattle.toml.specs.View.{table_view}
use Rattle.read_toml.proofs.Adding.{one_step}
use Rattle.read_toml.proofs.Repeating.{elements_left}
use Rattle.read_toml.proofs.document.faults.Faults.elements.Goals as goal

pub loop-place-preserved : goal.loop-place-preserved
loop-place-preserved g c =
    one_step _ _ _ _ _ _ _ c.loop-place.invariant
    (elements_left (g.T.Checked.faults (table_view c.args.fields.now.whole.now)) c.args.path.now c.args.items.now c.loop-place.place c.index-items-place.result
    c.loop-place-test.true c.index-items-place.is)
    c.in_ok-element.ensures

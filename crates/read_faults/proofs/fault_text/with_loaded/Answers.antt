use Rattle.read_faults.proofs.Lines.{loaded_more}
use Rattle.read_faults.proofs.fault_text.with_loaded.Goals as goal

pub loop-location-preserved : goal.loop-location-preserved
loop-location-preserved c =
    loaded_more c.args.name.now c.args.text.items c.loop-location.text.items c.in_ok-text.text.items c.args.loaded.now
    c.loop-location.location-index c.location-item.result c.loop-location-test.true c.location-item.is
    c.loop-location.invariant c.in_ok-text.ensures

use Rattle.read_toml.proofs.Adding.{adds_more}
use Rattle.read_toml.proofs.document.faults.Faults.both_ends.Goals as goal

pub returns : goal.returns
returns c = adds_more _ _ _ _ _ c.in_ok-location.ensures c.in_ok-location-2.ensures

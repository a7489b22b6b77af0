use Rattle.read_toml.proofs.Adding.{adds_more, adds_none}
use Rattle.read_toml.proofs.notes.read_list.ListingChecked.check.Goals as goal

pub returns : goal.returns
returns c =
    adds_more _ _ _ _ _ c.in_ok-unknown.ensures
    (adds_more _ _ _ _ _ c.in_ok-missing.ensures
    (adds_more _ _ _ _ _ c.in_ok-location.ensures
    (adds_more _ _ _ _ _ c.in_ok-tables.ensures (adds_none _))))

use Rattle.read_toml.proofs.Adding.{adds_more}
use Rattle.read_toml.proofs.document.faults.Faults.plain.Goals as goal

pub returns : goal.returns
returns c =
    adds_more _ _ _ _ _
    (adds_more _ _ _ _ _ c.in_ok-whole_number.ensures c.in_ok-whole_number-2.ensures)
    c.in_ok-choice.ensures

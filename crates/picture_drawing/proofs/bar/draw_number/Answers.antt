use Rattle.picture_drawing.proofs.Appending.{◌⊳◌}
use Rattle.picture_drawing.proofs.bar.draw_number.Goals as goal

pub returns : goal.returns
returns c =
    c.push.ensures ⊳ c.push_number.ensures ⊳ c.push-2.ensures ⊳ c.push_number-2.ensures ⊳ c.push-3.ensures
    ⊳ c.push_number-3.ensures ⊳ c.push-4.ensures

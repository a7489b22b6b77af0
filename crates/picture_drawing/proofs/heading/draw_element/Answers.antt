use Rattle.picture_drawing.proofs.Appending.{◌⊳◌}
use Rattle.picture_drawing.proofs.heading.draw_element.Goals as goal

pub returns : goal.returns
returns c =
    c.push.ensures ⊳ c.push_number.ensures ⊳ c.push-2.ensures ⊳ c.push_number-2.ensures ⊳ c.push-3.ensures

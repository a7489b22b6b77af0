use Rattle.picture_drawing.proofs.Appending.{◌⊳◌}
use Rattle.picture_drawing.proofs.heading.draw_ceiling.Goals as goal

pub returns : goal.returns
returns c = c.push.ensures ⊳ c.push_number.ensures ⊳ c.push-2.ensures

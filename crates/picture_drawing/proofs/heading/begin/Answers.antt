use Rattle.picture_drawing.proofs.Appending.{◌⊳◌}
use Rattle.picture_drawing.proofs.heading.begin.Goals as goal

pub returns : goal.returns
returns c = c.draw_element.ensures ⊳ c.draw_heading.ensures

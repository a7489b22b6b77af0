use Rattle.picture_drawing.proofs.Appending.{◌⊳◌}
use Rattle.picture_drawing.proofs.bar.draw_numbers.Goals as goal

pub returns : goal.returns
returns c =
    c.draw_number.ensures ⊳ c.draw_number-2.ensures ⊳ c.draw_number-3.ensures ⊳ c.draw_number-4.ensures

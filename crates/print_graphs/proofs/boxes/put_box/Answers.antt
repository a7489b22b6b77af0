use Rattle.print_lines.proofs.Passing.{◌⊳◌, passes_as}
use Rattle.print_graphs.proofs.boxes.put_box.Goals as goal

pub returns : goal.returns
returns g c =
    c.put_location.ensures ⊳ c.put.ensures ⊳ c.put_label.ensures ⊳ c.put-2.ensures
    ⊳ passes_as c.style.ensures c.put-3.ensures ⊳ c.put_border.ensures ⊳ c.put-4.ensures

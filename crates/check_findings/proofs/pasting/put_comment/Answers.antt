use Rattle.print_lines.proofs.Passing.{◌⊳◌, passes_as}
use Rattle.check_findings.proofs.pasting.put_comment.Goals as goal

pub returns : goal.returns
returns g c = rw c.in-Some.is (c.put-2.ensures ⊳ passes_as c.spelling_of.ensures c.put-3.ensures ⊳ c.put-4.ensures)

use Rattle.print_lines.proofs.Passing.{◌⊳◌}
use Rattle.print_hops.proofs.hop_text.put_way.Goals as goal

pub returns-in-To : goal.returns-in-To
returns-in-To g c = rw c.in-To.is (c.put-in-To.ensures ⊳ c.put_location.ensures)

use Rattle.print_lines.proofs.Passing.{◌⊳◌}
use Rattle.check_findings.proofs.listing.put_edges.Goals as goal

pub returns : goal.returns
returns g c =
    c.put.ensures ⊳ c.put_location.ensures ⊳ c.put-2.ensures ⊳ c.put_location-2.ensures ⊳ c.put-3.ensures
    ⊳ c.put_location-3.ensures ⊳ c.put-4.ensures ⊳ c.put_location-4.ensures ⊳ c.put-5.ensures

use Rattle.std.proofs.Common.{ap, flat_map}
use Rattle.print_lines.specs.FaultText.{next_location}
use Rattle.print_lines.proofs.Passing.{◌⊳◌, passes_as}
use Rattle.print_lines.proofs.print.refusal_line.put_cycle.Goals as goal

pub returns : goal.returns
returns g c =
    c.put.ensures ⊳ passes_as (ap (flat_map next_location) c.deref.ensures.value) c.put_locations.ensures ⊳ c.put-2.ensures

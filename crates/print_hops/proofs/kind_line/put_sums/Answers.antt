use Rattle.std.proofs.Common.{ap}
use Rattle.std.specs.Prelude.{decimal}
use Rattle.print_lines.proofs.Passing.{◌⊳◌, passes_as}
use Rattle.print_hops.proofs.kind_line.put_sums.Goals as goal

pub returns : goal.returns
returns g c =
    c.put.ensures ⊳ c.put_number.ensures ⊳ c.put-2.ensures ⊳ c.put_number-2.ensures ⊳ c.put-3.ensures
    ⊳ c.put_number-3.ensures ⊳ c.put-4.ensures ⊳ passes_as (ap decimal c.work.ensures) c.put_number-4.ensures

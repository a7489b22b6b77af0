use Rattle.std.proofs.Common.{ap}
use Rattle.std.specs.Prelude.{decimal}
use Rattle.print_lines.proofs.Passing.{◌⊳◌, passes_as}
use Rattle.check_findings.proofs.pasting.put_list.Goals as goal

pub returns : goal.returns
returns g c =
    c.put.ensures ⊳ passes_as (ap decimal c.number.ensures) c.put_number.ensures ⊳ c.put-2.ensures
    ⊳ c.put_pattern.ensures ⊳ c.put_comment.ensures

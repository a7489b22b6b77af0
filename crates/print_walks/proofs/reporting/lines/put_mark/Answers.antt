use Rattle.std.proofs.Common.{append_assoc, arith}
use Rattle.print_lines.proofs.Passing.{◌⊳◌, passes_as}
use Rattle.print_walks.proofs.Short.{mark_short}
use Rattle.print_walks.proofs.reporting.lines.put_mark.Goals as goal

pub returns-clause-line : goal.returns-clause-line
returns-clause-line g c =
    passes_as (simp append_assoc)
    (c.put.ensures ⊳ c.put_location.ensures ⊳ c.put-2.ensures ⊳ c.put_location-2.ensures ⊳ c.put_named.ensures
    ⊳ c.put_named-2.ensures ⊳ c.put_name.ensures ⊳ c.put-3.ensures)

pub returns-clause-short : goal.returns-clause-short
returns-clause-short g c =
    mark_short c.args.mark.now c.args.passed (omega arith)
    (omega (arith, c.name_length-length.ensures.length, c.name_length-length.ensures.short))

use Rattle.std.specs.Prelude.{codes}
use Rattle.print_lines.proofs.Passing.{◌⊳◌, passes_as}
use Rattle.print_hops.proofs.Lines.{named_moment}
use Rattle.print_hops.proofs.kind_line.put_angles.Goals as goal

pub returns : goal.returns
returns g c =
    passes_as (named_moment (codes " data-at ") c.args.operand) c.put_moment.ensures
    ⊳ passes_as (named_moment (codes " next-at ") c.args.next) c.put_moment-2.ensures ⊳ c.put.ensures

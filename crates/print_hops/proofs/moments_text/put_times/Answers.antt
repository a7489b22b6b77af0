use Rattle.print_lines.proofs.Passing.{passes_as}
use Rattle.print_hops.proofs.Lines.{times_told}
use Rattle.print_hops.proofs.moments_text.put_times.Goals as goal

pub returns : goal.returns
returns g c =
    passes_as (times_told c.args.moments.now c.args.ended c.args.last.now) c.put_all_moments.ensures

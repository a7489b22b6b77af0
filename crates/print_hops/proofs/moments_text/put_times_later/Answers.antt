use Rattle.std.proofs.Common.{◌+◌, ℕ, ap}
use Rattle.print_lines.proofs.Passing.{passes_as}
use Rattle.print_hops.proofs.Lines.{later_told}
use Rattle.print_hops.proofs.moments_text.put_times_later.Goals as goal

pub returns : goal.returns
returns g c =
    passes_as (later_told c.args.moments.now c.args.by c.args.ended (c.from.result + c.args.by) c.later-ready.result
    c.later-operand.result c.args.last.now (ap (λ (n : ℕ). n + c.args.by) c.from.ensures) c.later-ready.ensures
    c.later-operand.ensures) c.put_all_moments.ensures

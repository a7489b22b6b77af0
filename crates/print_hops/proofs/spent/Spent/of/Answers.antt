use Rattle.std.proofs.Common.{◌≡◌, ap, sym, ◌∙◌, arith}
use Rattle.base_notes.specs.Entries.{entry_in}
use Rattle.print_hops.specs.declared.moments.Moments.{Moments}
use Rattle.print_hops.specs.TimedHop.{seen_timed}
use Rattle.print_hops.specs.Waits.{moments_at}
use Rattle.print_hops.proofs.Waiting.{data_after, instruction_after}
use Rattle.print_hops.proofs.spent.Spent.of.Goals as goal

pub overflow_sub-operand : goal.overflow_sub-operand
overflow_sub-operand c =
    let times = entry_in c.args.times.now in
    let told = seen_timed c.args.told.now in
    data_after times c.args.angle told c.in-Some-Some.ready c.in-Some-Some.operand
    (ap (λ (m : Moments). m.ready) (sym c.of-moments.ensures) ∙ c.in-Some-Some.is-0)
    (ap (λ (m : Moments). m.operand) (sym c.of-moments.ensures) ∙ c.in-Some-Some.is-1)

pub overflow_sub-result : goal.overflow_sub-result
overflow_sub-result c =
    let times = entry_in c.args.times.now in
    let told = seen_timed c.args.told.now in
    let found : c.of-moments.result.found ≡ (moments_at times c.args.angle told).found =
    ap (λ (m : Moments). m.found) c.of-moments.ensures in
    omega (arith, instruction_after times c.args.angle told, found)

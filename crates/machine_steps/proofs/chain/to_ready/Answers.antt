use Rattle.std.proofs.Common.{arith}
use Rattle.machine_steps.proofs.Chained.{found_keeps_time}
use Rattle.machine_steps.proofs.chain.to_ready.Goals as goal

pub returns-clause-advances : goal.returns-clause-advances
returns-clause-advances c clock =
    omega (arith, (found_keeps_time c.of.result.location.number).never_earlier clock, c.args.entry.some_before)

-- Of spent_by: a hop that is a piece is short.
use Rattle.std.proofs.Common.{arith}
use Rattle.print_ceilings.proofs.RowRoom.{hop_lasts, hop_short}
use Rattle.print_ceilings.proofs.waits.adding.spent_by.Goals as goal

pub overflow_cast-took : goal.overflow_cast-took
overflow_cast-took c =
    let r = c.requires.right in
    omega (
      arith,
      c.lasting-took.ensures,
      hop_lasts r.0 c.args.times.now r.1.0 c.args.walk.now r.1.1 c.args.number c.args.one c.requires.here,
      hop_short r.0 c.args.times.now r.1.0 c.args.walk.now r.1.1 c.args.number c.args.one c.requires.here,
    )

use Rattle.std.proofs.Common.{◌+◌, sym, arith, refl}
use Rattle.print_ceilings.specs.ProgressOf.{told_of}
use Rattle.print_ceilings.specs.RoundsText.{again_line, at_time}
use Rattle.print_ceilings.proofs.Passing.{told_as, told_line}
use Rattle.print_ceilings.proofs.Tellings.{again_is_told, piece_lasts}
use Rattle.print_ceilings.proofs.teller.Teller.again.Goals as goal

pub overflow_add-ended : goal.overflow_add-ended
overflow_add-ended g c =
    omega (
      arith,
      piece_lasts c.args.self.now c.args.number c.args.piece.now (told_of c.args.progress.now) c.requires.teller
          c.requires.is,
    )

pub returns : goal.returns
returns g c =
    let old = c.args.progress.now in
    let ended = old.time + c.lasting.result in
    told_as (sym (again_is_told c.args.self.now c.args.number c.args.part c.args.piece.now c.lasting.result (told_of old)
    c.requires.teller c.requires.is c.lasting.ensures))
    (told_line (again_line c.args.part old.time ended) (at_time ended (told_of old)) old refl refl
    c.put_again.ensures)

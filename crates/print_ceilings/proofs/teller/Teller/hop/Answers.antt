use Rattle.std.proofs.Common.{◌+◌, sym, arith, refl}
use Rattle.base_notes.specs.Entries.{entry_in}
use Rattle.flow_walks.specs.declared.piece.Piece.TheVariants as piece
use Rattle.flow_walks.specs.Pieces.{seen_placed}
use Rattle.print_ceilings.specs.ProgressOf.{told_of}
use Rattle.print_ceilings.specs.RoundsText.{at_time, placed_line}
use Rattle.print_ceilings.proofs.Passing.{told_as, told_line}
use Rattle.print_ceilings.proofs.Tellings.{hop_is_told, piece_lasts}
use Rattle.print_ceilings.proofs.teller.Teller.hop.Goals as goal

pub overflow_add-ended : goal.overflow_add-ended
overflow_add-ended g c =
    omega (
      arith,
      piece_lasts c.args.self.now c.args.number (piece.Hop c.args.one) (told_of c.args.progress.now) c.requires.teller
          c.requires.is,
    )

pub put_placed-requires : goal.put_placed-requires
put_placed-requires g c =
    omega (
      arith,
      piece_lasts c.args.self.now c.args.number (piece.Hop c.args.one) (told_of c.args.progress.now) c.requires.teller
          c.requires.is,
    )

pub returns : goal.returns
returns g c =
    let old = c.args.progress.now in
    let ended = old.time + c.lasting.result in
    told_as (sym (hop_is_told c.args.self.now c.args.number c.args.one c.lasting.result (told_of old) c.requires.teller
    c.requires.is c.lasting.ensures))
    (told_line (placed_line (entry_in c.args.self.now.times.now) old.time ended (seen_placed c.args.one))
    (at_time ended (told_of old)) old refl refl c.put_placed.ensures)

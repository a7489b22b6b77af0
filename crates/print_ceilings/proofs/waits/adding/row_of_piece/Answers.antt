-- Of row_of_piece: a hop that is a piece is short, and comes no more often than the walk has room for.
use Rattle.std.proofs.Common.{◌≡◌, ◌*◌, ◌∙◌, ap, arith}
use Rattle.std.specs.Prelude.{slice_index}
use Rattle.base_notes.specs.Entries.{entry_in}
use Rattle.flow_walks.specs.Pieces.{seen_placed}
use Rattle.ceiling_rounds.specs.InRounds.{often_of, takes}
use Rattle.print_ceilings.proofs.RowRoom.{all_short, has_often, hop_lasts, hop_short, waits_in}
use Rattle.print_ceilings.proofs.waits.adding.row_of_piece.Goals as goal

pub often-requires : goal.often-requires
often-requires c =
    let r = c.requires.right in
    has_often r.0 c.args.times.now r.1.0 c.args.walk.now r.1.1 c.args.number c.args.one c.requires.here

pub overflow_cast-took : goal.overflow_cast-took
overflow_cast-took c =
    let r = c.requires.right in
    omega (
      arith,
      c.lasting-took.ensures,
      hop_lasts r.0 c.args.times.now r.1.0 c.args.walk.now r.1.1 c.args.number c.args.one c.requires.here,
      hop_short r.0 c.args.times.now r.1.0 c.args.walk.now r.1.1 c.args.number c.args.one c.requires.here,
    )

took : (c : goal.After-often) → c.lasting-took.result ≡ takes (entry_in c.args.times.now) (seen_placed c.args.one)
took c =
    let r = c.requires.right in
    c.lasting-took.ensures
    ∙ hop_lasts r.0 c.args.times.now r.1.0 c.args.walk.now r.1.1 c.args.number c.args.one c.requires.here

pub of-requires-clause-took : goal.of-requires-clause-took
of-requires-clause-took c = took c

pub of-requires-clause-time : goal.of-requires-clause-time
of-requires-clause-time c =
    let r = c.requires.right in
    let same : c.often.result * c.lasting-took.result
    ≡ slice_index (often_of c.args.walk.now) c.args.number * takes (entry_in c.args.times.now) (seen_placed c.args.one) =
    ap (λ n. n * c.lasting-took.result) c.often.ensures
    ∙ ap (λ n. slice_index (often_of c.args.walk.now) c.args.number * n) (took c) in
    omega (
      arith,
      same,
      all_short r.0 c.args.times.now r.1.0 c.args.walk.now r.1.1 c.args.number c.args.one c.requires.here,
      c.requires.early,
    )

pub of-requires-clause-instruction : goal.of-requires-clause-instruction
of-requires-clause-instruction c =
    let r = c.requires.right in
    omega (
      arith,
      took c,
      waits_in r.0 c.args.times.now r.1.0 c.args.walk.now r.1.1 c.args.number c.args.one c.requires.here,
    )

pub of-requires-clause-operand : goal.of-requires-clause-operand
of-requires-clause-operand c =
    let r = c.requires.right in
    omega (
      arith,
      took c,
      waits_in r.0 c.args.times.now r.1.0 c.args.walk.now r.1.1 c.args.number c.args.one c.requires.here,
    )

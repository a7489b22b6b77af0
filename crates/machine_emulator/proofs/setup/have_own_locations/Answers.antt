use Rattle.std.proofs.Common.{arith}
use Rattle.std.proofs.lemmas.Bool.{false≢true}
use Rattle.machine_emulator.proofs.OwnLocations.{given_before, own_more}
use Rattle.machine_emulator.proofs.setup.have_own_locations.Goals as goal

pub returns-then-is_given : goal.returns-then-is_given
returns-then-is_given c =
    let given = c.index-words-place.result in (
      λ e. absurd (false≢true e),
      λ own. absurd
          (given_before c.args.words.now c.loop-place.place given (omega arith) c.index-words-place.is
          c.if-is_given.ensures own),
    )

pub loop-place-preserved : goal.loop-place-preserved
loop-place-preserved c =
    own_more c.args.words.now c.loop-place.place c.index-words-place.result (omega arith) c.index-words-place.is
    (omega arith) c.if-is_given.ensures c.loop-place.invariant

use Rattle.std.proofs.Common.{◌≡◌, ◌<◌, List, length, take, ap, arith}
use Rattle.std.proofs.lemmas.Bool.{lt-ltb}
use borrow.Author.Tests.{ltb-true}
use Rattle.base_words.specs.declared.word.Word.{Word}
use Rattle.read_replays.proofs.line.have_common.Goals as goal

-- the greater first location is the first in common
pub returns : goal.returns
returns c =
    let ws : List Word = take c.args.card.now.len c.args.card.now.words in
    let vs : List Word = take c.args.other.now.len c.args.other.now.words in
    let count : length c.words.result.now ≡ length ws = ap length c.words.ensures in
    let other : length c.words-2.result.now ≡ length vs = ap length c.words-2.ensures in (
      λ test.
          let less : c.max.result < c.min.result = ltb-true c.max.result c.min.result test in
          (c.max.result, omega arith, omega arith, omega arith, omega arith),
      λ (location, low, high, from, below). lt-ltb c.max.result c.min.result (omega arith),
    )

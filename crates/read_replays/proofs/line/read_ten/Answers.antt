use Rattle.std.proofs.Common.{◌≡◌, refl, sym, ◌∙◌, ap, arith, length}
use Rattle.base_words.specs.Word.{spaced}
use Rattle.read_decks.proofs.Cards.{length-spaced}
use Rattle.read_replays.proofs.Prefixes.{same_behind}
use Rattle.read_replays.proofs.line.read_ten.Goals as goal

pub returns-then-text-clause-none : goal.returns-then-text-clause-none
returns-then-text-clause-none c words ten spelled =
    let rest : c.in-Some.text.now ≡ spaced words =
    same_behind c.args.mark.now c.in-Some.text.now (spaced words) (sym c.in-Some.ensures ∙ spelled) in
    omega (arith, ap length rest, length-spaced words, ten, c.if-text.true)

pub returns-else-read_words-clause-none : goal.returns-else-read_words-clause-none
returns-else-read_words-clause-none c words ten spelled =
    c.if-read_words.ensures.none refl words ten
    (same_behind c.args.mark.now c.in-Some.text.now (spaced words) (sym c.in-Some.ensures ∙ spelled))

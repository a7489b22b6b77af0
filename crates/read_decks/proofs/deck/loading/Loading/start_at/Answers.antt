use Rattle.std.proofs.Common.{refl, arith}
use Rattle.read_decks.specs.DeckText as text
use Rattle.read_decks.proofs.LineFaults.{past_drum, two_starts, start_next}
use Rattle.read_decks.proofs.deck.loading.Loading.start_at.Goals as goal

pub returns-then-address-ge-DRUM : goal.returns-then-address-ge-DRUM
returns-then-address-ge-DRUM c bytes is_line before counted holds =
    past_drum c.args.self.now before bytes c.args.line (text.start c.args.address) c.alone.ensures counted is_line
    (omega (arith, c.if-address-ge-DRUM.true)) holds

pub returns-in-Some : goal.returns-in-Some
returns-in-Some c bytes is_line before counted holds =
    two_starts c.args.self.now before bytes c.args.line c.args.address c.in-Some.start c.in-Some.is counted is_line
    (omega (arith, c.if-address-ge-DRUM.false)) holds

pub returns : goal.returns
returns c bytes is_line before counted holds =
    start_next c.args.self.now _ _ before bytes (search (c.in_default.is)) refl refl refl
    (omega (arith, c.if-address-ge-DRUM.false)) counted is_line holds

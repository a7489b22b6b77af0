-- What a line that was read says, of a deck's text.
use Rattle.std.specs.Prelude.{take}
use Rattle.read_decks.specs.declared.deck.line.Line as read
use Rattle.read_decks.specs.declared.deck.line.Line.TheVariants as lines
use Rattle.read_decks.specs.DeckText.{Line, comment, start, card}

abbrev pub said : read.Line → Line
said lines.Comment = comment
said (lines.Start n) = start n
said (lines.Card c) = card c.address (take c.len c.words)

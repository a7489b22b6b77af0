use Rattle.std.proofs.Common.{ap, Err, List}
use Rattle.read_decks.proofs.Progress.{left_too_long}
use Rattle.read_decks.proofs.Passing.{ok_of_left, err_of_left}
use Rattle.read_decks.specs.declared.deck.fault.DeckFault.TheVariants.{Read, Memory}
use Rattle.read_decks.specs.DeckText.{Line, IsDeck, IsRefused}
use Rattle.read_decks.specs.DeckOfLines.{IsDeckOf}
use Rattle.read_decks.proofs.deck.read.read_deck.Goals as goal

pub returns-in-Err-TooLong-clause-refused : goal.returns-in-Err-TooLong-clause-refused
returns-in-Err-TooLong-clause-refused g c not_read not_memory =
    left_too_long (g.I.Input.unread c.args.reader.now)
    (c.in-Err-TooLong.ensures.long (ap Err c.in-Err-TooLong.field-0-is))

pub returns-clause-deck : goal.returns-clause-deck
returns-clause-deck g c =
    ok_of_left (λ bytes deck. (lines : List Line) × IsDeck bytes lines × IsDeckOf deck lines)
    (g.I.Input.unread c.args.reader.now) c.in-Ok.text.items c.deref.result.now c.deck_of.result
    c.deref.ensures.value c.in-Ok.ensures.all c.deck_of.ensures.deck

pub returns-clause-refused : goal.returns-clause-refused
returns-clause-refused g c =
    err_of_left IsRefused (g.I.Input.unread c.args.reader.now) c.in-Ok.text.items c.deref.result.now
    c.deck_of.result Read Memory c.deref.ensures.value c.in-Ok.ensures.all c.deck_of.ensures.refused

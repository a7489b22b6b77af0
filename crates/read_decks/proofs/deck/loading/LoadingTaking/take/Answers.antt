use Rattle.std.proofs.Common.{subst}
use Rattle.read_decks.specs.DeckText as text
use Rattle.read_decks.specs.declared.deck.line.Line as read
use Rattle.read_decks.specs.DeckLine.{said}
use Rattle.read_decks.proofs.LineFaults.{no_card, comment_next}
use Rattle.read_decks.proofs.deck.loading.LoadingTaking.take.Goals as goal

pub returns-in-None : goal.returns-in-None
returns-in-None c before counted holds =
    no_card c.args.self.now before c.args.bytes.now c.args.number c.alone.ensures counted c.in-None.ensures.none holds

pub returns-in-Some-Comment : goal.returns-in-Some-Comment
returns-in-Some-Comment c before counted holds =
    comment_next c.args.self.now before c.args.bytes.now
    (subst (λ (line : read.Line). text.IsLine c.args.bytes.now (said line)) c.in-Some-Comment.field-0-is
    c.in-Some-Comment.ensures.found) holds

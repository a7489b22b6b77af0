-- Of Stating's take: what a line spells is added to what the lines so far state; each kind of line
-- changes its own part alone.
use Rattle.std.proofs.Common.{refl, subst}
use Rattle.read_replays.specs.InputsText as text
use Rattle.read_replays.specs.declared.fault.InputFault.TheVariants as faults
use Rattle.read_replays.specs.declared.line.Line as read
use Rattle.read_replays.specs.Said.{said}
use Rattle.read_replays.proofs.Steps.{has_fault, is_next, holds_comment, holds_card, holds_wait}
use Rattle.read_replays.proofs.stating.StatingTaking.take.Goals as goal

pub state-requires : goal.state-requires
state-requires c = (
  c.args.bytes.now,
  subst (λ (line : read.Line). text.IsLine c.args.bytes.now (said line))
      c.in-Some-Setting.field-0-is c.in-Some-Setting.ensures.found,
)

pub returns-in-None : goal.returns-in-None
returns-in-None c before counted holds =
    has_fault c.args.self.now before c.args.bytes.now (faults.Line c.args.number) (counted, c.in-None.ensures.none) holds

pub returns-in-Some-Comment : goal.returns-in-Some-Comment
returns-in-Some-Comment c before counted holds =
    is_next c.args.self.now before c.args.bytes.now text.comment
    (subst (λ (line : read.Line). text.IsLine c.args.bytes.now (said line)) c.in-Some-Comment.field-0-is
    c.in-Some-Comment.ensures.found) (holds_comment c.args.self.now before holds)

pub returns-in_ok-push-in-Some-Card : goal.returns-in_ok-push-in-Some-Card
returns-in_ok-push-in-Some-Card c before counted holds =
    is_next _ before c.args.bytes.now (text.card c.in-Some-Card.card.load c.in-Some-Card.card.words)
    (subst (λ (line : read.Line). text.IsLine c.args.bytes.now (said line)) c.in-Some-Card.field-0-is
    c.in-Some-Card.ensures.found)
    (holds_card c.args.self.now _ before c.in-Some-Card.card holds refl refl
    c.in_ok-push-in-Some-Card.ensures.items refl)

pub returns-in_ok-push-in-Some-Wait : goal.returns-in_ok-push-in-Some-Wait
returns-in_ok-push-in-Some-Wait c before counted holds =
    is_next _ before c.args.bytes.now (text.wait c.in-Some-Wait.wait)
    (subst (λ (line : read.Line). text.IsLine c.args.bytes.now (said line)) c.in-Some-Wait.field-0-is
    c.in-Some-Wait.ensures.found)
    (holds_wait c.args.self.now _ before c.in-Some-Wait.wait holds refl refl refl
    c.in_ok-push-in-Some-Wait.ensures.items)

pub returns-in-Some-Setting : goal.returns-in-Some-Setting
returns-in-Some-Setting c =
    c.state.ensures c.args.bytes.now
    (subst (λ (line : read.Line). text.IsLine c.args.bytes.now (said line)) c.in-Some-Setting.field-0-is
    c.in-Some-Setting.ensures.found)

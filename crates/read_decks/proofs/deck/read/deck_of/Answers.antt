-- Of deck_of: the first fault that is met is the first of the text; where none is met, there is the
-- deck, or no line says where to start.
use Rattle.std.proofs.Common.{[], sym, subst, Some, None}
use Rattle.read_decks.specs.LinesSoFar.{deck_rules}
use Rattle.read_decks.specs.declared.deck.loading.Loading.{Loading}
use Rattle.read_decks.specs.Lines.{lines_of}
use Rattle.read_decks.proofs.Passing.{none_by, from_first}
use Rattle.read_decks.proofs.Progress.{refused_met, all_taken, can_finish, deck_of_all, no_start_at_all}
use Rattle.read_decks.proofs.deck.read.deck_of.Goals as goal

pub next_fault-requires : goal.next_fault-requires
next_fault-requires c = (
  [],
  c.new-reading.ensures.none,
  subst (λ (state : Loading). deck_rules.Holds state []) (sym c.new-reading.ensures.taking) c.in_ok-new.ensures,
)

pub finish-requires : goal.finish-requires
finish-requires c =
    can_finish c.args.text.now c.next_fault.new.self.taking
    (none_by c.is_longer.result c.is_longer.ensures c.if-is_longer.false)
    (all_taken c.args.text.now (lines_of c.next_fault.new.self.lines.rest.now) c.next_fault.new.self.taking c.next_fault.new.self.number
    (from_first deck_rules c.args.text.now c.next_fault.new.self.taking
    c.next_fault.new.self.number (lines_of c.next_fault.new.self.lines.rest.now) None (rw c.in-None.is at c.in_ok-found.ensures) c.new-reading.ensures.taking
    c.new-reading.ensures.left c.new-reading.ensures.none c.in_ok-new.ensures))

pub returns-in-Some-clause-refused : goal.returns-in-Some-clause-refused
returns-in-Some-clause-refused c not_memory =
    refused_met c.args.text.now (lines_of c.next_fault.new.self.lines.rest.now) c.next_fault.new.self.taking c.next_fault.new.self.number
    c.in-Some.found (none_by c.is_longer.result c.is_longer.ensures c.if-is_longer.false)
    (from_first deck_rules c.args.text.now c.next_fault.new.self.taking
    c.next_fault.new.self.number (lines_of c.next_fault.new.self.lines.rest.now) (Some c.in-Some.found) (rw c.in-Some.is at c.in_ok-found.ensures) c.new-reading.ensures.taking
    c.new-reading.ensures.left c.new-reading.ensures.none c.in_ok-new.ensures)

pub returns-in-None-clause-deck : goal.returns-in-None-clause-deck
returns-in-None-clause-deck c =
    deck_of_all c.args.text.now c.next_fault.new.self.taking c.finish.result
    (none_by c.is_longer.result c.is_longer.ensures c.if-is_longer.false)
    (all_taken c.args.text.now (lines_of c.next_fault.new.self.lines.rest.now) c.next_fault.new.self.taking c.next_fault.new.self.number
    (from_first deck_rules c.args.text.now c.next_fault.new.self.taking
    c.next_fault.new.self.number (lines_of c.next_fault.new.self.lines.rest.now) None (rw c.in-None.is at c.in_ok-found.ensures) c.new-reading.ensures.taking
    c.new-reading.ensures.left c.new-reading.ensures.none c.in_ok-new.ensures)) c.finish.ensures.ok

pub returns-in-None-clause-refused : goal.returns-in-None-clause-refused
returns-in-None-clause-refused c =
    no_start_at_all c.args.text.now c.next_fault.new.self.taking c.finish.result
    (none_by c.is_longer.result c.is_longer.ensures c.if-is_longer.false)
    (all_taken c.args.text.now (lines_of c.next_fault.new.self.lines.rest.now) c.next_fault.new.self.taking c.next_fault.new.self.number
    (from_first deck_rules c.args.text.now c.next_fault.new.self.taking
    c.next_fault.new.self.number (lines_of c.next_fault.new.self.lines.rest.now) None (rw c.in-None.is at c.in_ok-found.ensures) c.new-reading.ensures.taking
    c.new-reading.ensures.left c.new-reading.ensures.none c.in_ok-new.ensures)) c.finish.ensures.err

-- Of inputs_of: the first fault that is met is the first of the text; where none is met, what is held
-- is what all lines state.
use Rattle.std.proofs.Common.{[], sym, ◌≡◌, Some, None, subst}
use Rattle.read_replays.specs.declared.stating.Stating.{Stating}
use Rattle.read_decks.specs.Lines.{lines_of}
use Rattle.read_decks.proofs.Passing.{none_by, from_first}
use Rattle.read_replays.specs.InputsOfLines.{input_rules}
use Rattle.read_replays.specs.InputsText.{IsRefused}
use Rattle.read_replays.specs.declared.fault.InputFault.TheVariants.{Read}
use Rattle.read_replays.proofs.Progress.{refused_met, all_taken}
use Rattle.read_replays.proofs.read.inputs_of.Goals as goal

pub next_fault-requires : goal.next_fault-requires
next_fault-requires c = (
  [],
  c.new-reading.ensures.none,
  subst (λ (state : Stating). input_rules.Holds state []) (sym c.new-reading.ensures.taking) c.in_ok-new.ensures,
)

pub returns-in-Some-clause-refused : goal.returns-in-Some-clause-refused
returns-in-Some-clause-refused c not_memory =
    refused_met c.args.text.now (lines_of c.next_fault.new.self.lines.rest.now) c.next_fault.new.self.taking
    c.next_fault.new.self.number c.in-Some.fault (none_by c.is_longer.result c.is_longer.ensures c.if-is_longer.false)
    (from_first input_rules c.args.text.now c.next_fault.new.self.taking c.next_fault.new.self.number
    (lines_of c.next_fault.new.self.lines.rest.now) (Some c.in-Some.fault) (rw c.in-Some.is at c.in_ok-fault.ensures)
    c.new-reading.ensures.taking c.new-reading.ensures.left c.new-reading.ensures.none c.in_ok-new.ensures)

pub returns-in-Some-clause-read : goal.returns-in-Some-clause-read
returns-in-Some-clause-read c is_read =
    let same : c.in-Some.fault ≡ Read = cc (is_read) in
    subst (IsRefused c.args.text.now) same
    (refused_met c.args.text.now (lines_of c.next_fault.new.self.lines.rest.now) c.next_fault.new.self.taking
    c.next_fault.new.self.number c.in-Some.fault (none_by c.is_longer.result c.is_longer.ensures c.if-is_longer.false)
    (from_first input_rules c.args.text.now c.next_fault.new.self.taking c.next_fault.new.self.number
    (lines_of c.next_fault.new.self.lines.rest.now) (Some c.in-Some.fault) (rw c.in-Some.is at c.in_ok-fault.ensures)
    c.new-reading.ensures.taking c.new-reading.ensures.left c.new-reading.ensures.none c.in_ok-new.ensures))

pub finish-requires : goal.finish-requires
finish-requires c =
    let all =
    all_taken c.args.text.now (lines_of c.next_fault.new.self.lines.rest.now) c.next_fault.new.self.taking
    c.next_fault.new.self.number (none_by c.is_longer.result c.is_longer.ensures c.if-is_longer.false)
    (from_first input_rules c.args.text.now c.next_fault.new.self.taking c.next_fault.new.self.number
    (lines_of c.next_fault.new.self.lines.rest.now) None (rw c.in-None.is at c.in_ok-fault.ensures)
    c.new-reading.ensures.taking c.new-reading.ensures.left c.new-reading.ensures.none c.in_ok-new.ensures) in
    (all.0, all.2)

pub returns-in-None-clause-inputs : goal.returns-in-None-clause-inputs
returns-in-None-clause-inputs c =
    let all =
    all_taken c.args.text.now (lines_of c.next_fault.new.self.lines.rest.now) c.next_fault.new.self.taking
    c.next_fault.new.self.number (none_by c.is_longer.result c.is_longer.ensures c.if-is_longer.false)
    (from_first input_rules c.args.text.now c.next_fault.new.self.taking c.next_fault.new.self.number
    (lines_of c.next_fault.new.self.lines.rest.now) None (rw c.in-None.is at c.in_ok-fault.ensures)
    c.new-reading.ensures.taking c.new-reading.ensures.left c.new-reading.ensures.none c.in_ok-new.ensures) in
    (all.0, all.1, c.finish.ensures all.0 all.2)

use Rattle.std.specs.Prelude.{codes}
use Rattle.read_toml.specs.LongNotes.{long_notes_faults}
use Rattle.read_faults.specs.NamedTexts.{named}
use Rattle.read_faults.proofs.Lines.{lines_returned}
use Rattle.read_faults.proofs.lines_of_faults.with_notes.Goals as goal

pub returns : goal.returns
returns c =
    lines_returned c.with_complaint.result (λ new. new.items) long_notes_faults (codes "notes") (named c.args.notes)
    c.in_ok-faults.faults.items c.in_ok-complaint.complaint c.args.text.items c.in_ok-text.text.items
    c.in_ok-faults.ensures c.in_ok-complaint.ensures c.in_ok-text.ensures c.with_complaint.ensures

use Rattle.std.specs.Prelude.{codes}
use Rattle.read_toml.specs.LongNotes.{long_notes_faults}
use Rattle.read_toml.specs.TimesDocument.{times_faults}
use Rattle.read_faults.proofs.Lines.{all_none, document_none}
use Rattle.read_faults.proofs.laws.sound_where_none.Goals as goal

pub returns : goal.returns
returns c = λ deck times notes inputs all.
    let none = all_none deck times notes inputs all in
    let no_times = document_none times_faults (codes "times") times all.of_times all.times_are none.1 in
    let no_notes = document_none long_notes_faults (codes "notes") notes all.of_notes all.notes_are none.2 in
    let of_times = c.tells_times.ensures.none times.bytes no_times in
    let of_notes = c.tells_long_notes.ensures.none notes.bytes no_notes in (
      none.0,
      (of_times.0, of_times.2.0, of_times.1, of_times.2.1),
      (of_notes.0, of_notes.2.0, of_notes.1, of_notes.2.1),
      none.3,
    )

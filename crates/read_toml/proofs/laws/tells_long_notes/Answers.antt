use Rattle.read_toml.specs.LongNotes.{long_notes_faults}
use Rattle.read_toml.proofs.AllFaultsLaws.{first_told, nothing_told}
use Rattle.read_toml.proofs.NotesThere.{notes_there}
use Rattle.read_toml.proofs.laws.tells_long_notes.Goals as goal

pub returns-clause-first : goal.returns-clause-first
returns-clause-first c = λ bytes fault others all. first_told long_notes_faults bytes fault others all

pub returns-clause-none : goal.returns-clause-none
returns-clause-none c = λ bytes all.
    let none = nothing_told long_notes_faults bytes all in
    (none.0, none.1, notes_there none.0 none.2)

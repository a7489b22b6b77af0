-- Which timing table, and which notes, bytes say.
use Rattle.std.specs.Prelude.{ℕ, List}
use Rattle.base_notes.specs.declared.times.Times.{Times}
use Rattle.base_notes.specs.Allowed.{Notes}
use Rattle.base_notes.specs.Entries.{entry_in}
use Rattle.base_notes.specs.declared.fault.NoteFault.{NoteFault}
use Rattle.read_toml.specs.declared.notes.read.NotesRead.{NotesRead}
use Rattle.read_toml.specs.declared.notes.read.NotesRead.TheVariants.{Short, Long}
use Rattle.read_toml.specs.LongNotes.{IsLongNotes, long_notes_faults}
use Rattle.read_toml.specs.Document.{Fault}
use Rattle.read_toml.specs.Refused.{IsDocument, IsRefused}
use Rattle.read_toml.specs.ShortNotes.{IsNotes, notes_faults}
use Rattle.read_toml.specs.TimesDocument.{IsTimes, times_faults}
use Rattle.toml.specs.Data.{Members}

-- the faults of notes of a kind, and that a document is of these
abbrev pub faults_of : NotesRead → Members → List Fault
faults_of Short document = notes_faults document
faults_of Long document = long_notes_faults document

abbrev pub IsNotesOf : NotesRead → Members → Notes → Type 0
IsNotesOf Short = IsNotes
IsNotesOf Long = IsLongNotes

-- the bytes are the document of this timing table, of these short notes, of these notes of a kind
abbrev pub SayTimes : List ℕ → Times → Type 0
SayTimes bytes times = (table : Members) × IsDocument bytes table × IsTimes table (entry_in times)

abbrev pub SayNotes : List ℕ → Notes → Type 0
SayNotes bytes notes = (table : Members) × IsDocument bytes table × IsNotes table notes

abbrev pub SayNotesOf : NotesRead → List ℕ → Notes → Type 0
SayNotesOf read bytes notes =
    (table : Members) × IsDocument bytes table × IsNotesOf read table notes

-- they are no timing table, no notes of a kind, for this fault
abbrev pub AreNoTimes : List ℕ → NoteFault → Type 0
AreNoTimes bytes fault = IsRefused times_faults bytes fault

abbrev pub AreNoNotesOf : NotesRead → List ℕ → NoteFault → Type 0
AreNoNotesOf read bytes fault = IsRefused (faults_of read) bytes fault

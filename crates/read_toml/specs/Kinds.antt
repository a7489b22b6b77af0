-- What the code means by the parts of the faults of short notes, or of long ones.
use Rattle.std.specs.Prelude.{ℕ, List, [], map, flat_map, codes}
use Rattle.read_toml.specs.declared.notes.read.NotesRead.{NotesRead}
use Rattle.read_toml.specs.declared.notes.read.NotesRead.TheVariants.{Short, Long}
use Rattle.read_toml.specs.Document.{Fault}
use Rattle.read_toml.specs.LongMarks.{edges_said}
use Rattle.read_toml.specs.LongNotes.{calls_faults, long_marks_faults, long_note_keys}
use Rattle.read_toml.specs.NotesDocument.{repeated_edges, tables_at}
use Rattle.read_toml.specs.ShortNotes.{edge_in, marks_faults, note_keys}
use Rattle.toml.specs.Data.{Members}

abbrev pub keys_of : NotesRead → List (List ℕ)
keys_of Short = note_keys
keys_of Long = long_note_keys

abbrev pub marks_of : NotesRead → Members → List Fault
marks_of Short document = marks_faults document
marks_of Long document = long_marks_faults document

abbrev pub calls_of : NotesRead → Members → List Fault
calls_of Short document = []
calls_of Long document = calls_faults document

abbrev pub edges_of : NotesRead → Members → List (ℕ × ℕ)
edges_of Short document = map edge_in (tables_at (codes "mark") document)
edges_of Long document = flat_map edges_said (tables_at (codes "mark") document)

-- of each edge that is there twice, where the marks have no other fault
abbrev pub repeated_of : NotesRead → Members → List Fault
repeated_of read document = repeated_edges (marks_of read document) (edges_of read document)

-- Long notes as a document: their faults in their order, and what those without faults say.
use Rattle.std.specs.Prelude.{◌≡◌, ℕ, List, [], ◌∷◌, flat_map, codes, Some}
use Rattle.base_notes.specs.Allowed.{Notes}
use Rattle.read_toml.specs.Calls.{IsCall, call_faults}
use Rattle.read_toml.specs.Document.{Fault, in_turn, tables}
use Rattle.read_toml.specs.LongMarks.{IsMark, edges_said, long_mark_faults}
use Rattle.read_toml.specs.NotesDocument.{AreSaid, SaysRest, notes_checks, tables_at}
use Rattle.toml.specs.Data.{Members}

abbrev pub long_note_keys : List (List ℕ)
long_note_keys =
    codes "programmed" ∷ codes "load_cards" ∷ codes "mark" ∷ codes "list" ∷ codes "call" ∷ []

-- the faults of the marks, and of the calls, of which there are up to 64 each
abbrev pub long_marks_faults : Members → List Fault
long_marks_faults document =
    tables 0 (Some 64) (long_mark_faults document) [] (codes "mark") document

abbrev pub calls_faults : Members → List Fault
calls_faults document = tables 0 (Some 64) (call_faults document) [] (codes "call") document

-- The faults of a document, in their order. The first is why it is refused, and a check reports
-- them all.
abbrev pub long_notes_faults : Members → List Fault
long_notes_faults document =
    in_turn (notes_checks long_note_keys (long_marks_faults document) (calls_faults document)
    (flat_map edges_said (tables_at (codes "mark") document)) document)

-- The document is of long notes, which say this.
pub record IsLongNotes (document : Members) (notes : Notes) : Type 0 where
  pub faultless : long_notes_faults document ≡ []
  pub marks : AreSaid (IsMark document) 0 (tables_at (codes "mark") document) notes.marks
  pub calls : AreSaid (λ index fields call. IsCall fields call) 0
      (tables_at (codes "call") document) notes.calls
  pub rest : SaysRest document notes

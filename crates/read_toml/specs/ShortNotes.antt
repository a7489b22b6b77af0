-- Short notes as a document: their faults in their order, and what those without faults say.
use Rattle.std.specs.Prelude.{◌≡◌, ℕ, zero, suc, ◌-◌, List, [], ◌∷◌, map, codes, Option, Some, None}
use Rattle.base_notes.specs.declared.notes.mark.Mark.{Mark}
use Rattle.base_notes.specs.Allowed.{Notes}
use Rattle.read_toml.specs.Document.{Fault, in_turn, unknown_in, missing_in, whole, location, tables}
use Rattle.read_toml.specs.Document.{number_at}
use Rattle.read_toml.specs.NotesDocument.{AreSaid, SaysRest, notes_checks, tables_at}
use Rattle.toml.specs.Data.{Members}

abbrev pub note_keys : List (List ℕ)
note_keys = codes "programmed" ∷ codes "load_cards" ∷ codes "mark" ∷ codes "list" ∷ []

abbrev pub mark_keys : List (List ℕ)
mark_keys = codes "from" ∷ codes "to" ∷ codes "most" ∷ codes "inside" ∷ []

-- the faults that each check of a mark finds, of this number, from 1: unknown keys, missing keys,
-- and then the values; the outer mark is an earlier one, by its number
abbrev pub mark_checks : ℕ → List ℕ → Members → List (List Fault)
mark_checks number at fields =
    unknown_in at mark_keys fields
    ∷ missing_in at (codes "from" ∷ codes "to" ∷ codes "most" ∷ []) fields
    ∷ location at (codes "from") fields ∷ location at (codes "to") fields
    ∷ whole 0 9999 at (codes "most") fields
    ∷ whole 1 (number - 1) at (codes "inside") fields ∷ []

abbrev pub mark_faults : ℕ → List ℕ → Members → List Fault
mark_faults number at fields = in_turn (mark_checks number at fields)

-- the faults of the marks, of which there are up to 8
abbrev pub marks_faults : Members → List Fault
marks_faults document = tables 0 (Some 8) mark_faults [] (codes "mark") document

-- the edge of a mark's table
abbrev pub edge_in : Members → ℕ × ℕ
edge_in fields = (number_at (codes "from") fields, number_at (codes "to") fields)

-- The faults of a document, in their order. The first is why it is refused.
abbrev pub notes_faults : Members → List Fault
notes_faults document =
    in_turn (notes_checks note_keys (marks_faults document) []
    (map edge_in (tables_at (codes "mark") document)) document)

-- the index, from 0, that a number from 1 stands for; 0 stands for none
abbrev pub index_of : ℕ → Option ℕ
index_of zero = None
index_of (suc index) = Some index

-- The table says this mark: it has one edge, and no name; `inside` is the number of its outer one.
pub record IsMark (fields : Members) (mark : Mark) : Type 0 where
  pub from : mark.from.number ≡ number_at (codes "from") fields
  pub onto : mark.onto.number ≡ number_at (codes "to") fields
  pub others : mark.others ≡ []
  pub most : mark.most ≡ number_at (codes "most") fields
  pub inside : mark.inside ≡ index_of (number_at (codes "inside") fields)
  pub name : mark.name ≡ None

-- The document is of short notes, which say this. They have no calls.
pub record IsNotes (document : Members) (notes : Notes) : Type 0 where
  pub faultless : notes_faults document ≡ []
  pub marks : AreSaid (λ index fields mark. IsMark fields mark) 0
      (tables_at (codes "mark") document) notes.marks
  pub calls : notes.calls ≡ []
  pub rest : SaysRest document notes

-- The joined form: a deck, a timing table and notes in one text, told apart by lines.
use Rattle.std.specs.Prelude.{◌≡◌, ℕ, ◌<◌, ◌≤◌, List, [], ◌++◌, codes, length, Contains, ◌⊎◌}
use Rattle.std.specs.Prelude.{Result, IsErrOf}
use Rattle.read_decks.specs.Lines.{lines_of}
use Rattle.read_documents.specs.declared.documents.Documents.{Documents}
use Rattle.print_lines.specs.declared.fault.Fault.{Fault}
use Rattle.print_lines.specs.declared.fault.Fault.TheVariants as fault
use Rattle.print_lines.specs.declared.part.Part.TheVariants as part
use Rattle.print_lines.specs.declared.part.PartFault.TheVariants as what
use Rattle.read_toml.specs.declared.notes.read.NotesRead.TheVariants.{Short}
use Rattle.read_documents.specs.Documents.{Texts, Say, SayNone}

-- nothing, or bytes whose last is a line feed
abbrev pub AreWholeLines : List ℕ → Type 0
AreWholeLines text = (text ≡ []) ⊎ ((prefix : List ℕ) × (text ≡ prefix ++ codes "\n"))

-- the text begins with the line, and a line feed or its end stands behind it
abbrev pub Begins : List ℕ → List ℕ → Type 0
Begins line text = ((rest : List ℕ) × (text ≡ line ++ codes "\n" ++ rest)) ⊎ (text ≡ line)

-- A text is cut at its first line that is exactly the mark: what stands before this line, and what
-- stands behind it and its line feed, which the text's last line may lack.
pub record IsCut (mark text before behind : List ℕ) : Type 0 where
  pub whole : AreWholeLines before
  pub first : ¬ Contains (lines_of before) mark
  pub spelled :
      (text ≡ before ++ mark ++ codes "\n" ++ behind) ⊎ ((text ≡ before ++ mark) × (behind ≡ []))

-- The first line `%TIMES` ends the deck, and the first line `%NOTES` behind it the timing table.
pub record AreParts (text : List ℕ) (parts : Texts) : Type 0 where
  pub rest : List ℕ
  pub deck_ends : IsCut (codes "%TIMES") text parts.deck rest
  pub times_end : IsCut (codes "%NOTES") rest parts.times parts.notes

-- one of these lines is missing
abbrev pub LacksPart : List ℕ → Type 0
LacksPart text =
    (¬ Contains (lines_of text) (codes "%TIMES"))
    ⊎ ((deck : List ℕ) × (rest : List ℕ) × IsCut (codes "%TIMES") text deck rest
    × (¬ Contains (lines_of rest) (codes "%NOTES")))

-- the documents that a joined form says, by its parts
abbrev pub Joins : List ℕ → Documents → Type 0
Joins text documents = (parts : Texts) × AreParts text parts × Say Short parts documents

-- why a joined form says none: a part is missing; else the first part that is refused
abbrev pub JoinsNone : List ℕ → Fault → Type 0
JoinsNone text fault.NoPart = LacksPart text
JoinsNone text one = (parts : Texts) × AreParts text parts × SayNone Short parts one

-- the documents of an input that gives these bytes
abbrev pub Gives : List ℕ → Documents → Type 0
Gives bytes documents = (length bytes ≤ 16777216) × Joins bytes documents

-- Why an input gives none: a read failed; there are too many bytes; there is no memory (which is
-- tested, not stated); else they join none.
abbrev pub GivesNone : List ℕ → Fault → Type 0
GivesNone bytes (fault.Part part.Joined what.Read) = Unit {0}
GivesNone bytes (fault.Part part.Joined what.TooLong) = 16777216 < length bytes
GivesNone bytes fault.Memory = Unit {0}
GivesNone bytes one = (length bytes ≤ 16777216) × JoinsNone bytes one

-- the input is past its limit, or there was no memory
abbrev pub IsPastLimit : {A : Type 0} → Result A Fault → Type 0
IsPastLimit result =
    IsErrOf result (fault.Part part.Joined what.TooLong) ⊎ IsErrOf result fault.Memory

-- The texts that files hold, and why they can't be had.
use Rattle.std.specs.Prelude.{◌≡◌, ℕ, List, Option, Some, None, IsSome, ◌⊎◌}
use Rattle.print_lines.specs.declared.fault.Fault.{Fault}
use Rattle.print_lines.specs.declared.part.Part.TheVariants as part
use Rattle.read_faults.specs.FaultLines.{Named}
use Rattle.read_documents.specs.Documents.{Texts}
use Rattle.read_documents.specs.Files.{Contents, HoldsText, HoldsNoText}

-- the files of three parts hold these texts, each within its limit
pub record AreTextsHeld (held : Contents) (texts : Texts) : Type 0 where
  pub deck : HoldsText part.Deck (held part.Deck) texts.deck
  pub times : HoldsText part.Times (held part.Times) texts.times
  pub notes : HoldsText part.Notes (held part.Notes) texts.notes

-- Why three texts can't be had: the deck can't, or else the timing table, or else the notes.
abbrev pub AreNoTextsHeld : Contents → Fault → Type 0
AreNoTextsHeld held one =
    HoldsNoText part.Deck (held part.Deck) one
    ⊎ ((deck : List ℕ) × HoldsText part.Deck (held part.Deck) deck
    × (HoldsNoText part.Times (held part.Times) one
    ⊎ ((times : List ℕ) × HoldsText part.Times (held part.Times) times
    × HoldsNoText part.Notes (held part.Notes) one)))

-- the text of inputs with its file's name, where one is named
abbrev pub IsInputsText : Contents → Option (List ℕ) → Option Named → Type 0
IsInputsText held None text = text ≡ None
IsInputsText held (Some name) text =
    (bytes : List ℕ) × HoldsText part.Inputs (held part.Inputs) bytes
    × (text ≡ Some (record { name = name; bytes = bytes }))

-- why the texts that are named can't be had: three of them can't, or else the inputs
abbrev pub AreNoneHeld : Contents → Option (List ℕ) → Fault → Type 0
AreNoneHeld held name one =
    AreNoTextsHeld held one
    ⊎ (((texts : Texts) × AreTextsHeld held texts) × IsSome name
    × HoldsNoText part.Inputs (held part.Inputs) one)

-- The lines of all faults of a deck, a timing table and notes, and of inputs.
use Rattle.std.specs.Prelude.{◌≡◌, ℕ, ◌≤◌, ◌⊎◌, List, [], ◌++◌, length, flat_map, codes, decimal}
use Rattle.std.specs.Prelude.{filter, map, nat_eq, if◌then◌else◌, Option, Some, None}
use Rattle.std.specs.Option.{is_some, option_eq}
use Rattle.read_decks.specs.declared.deck.fault.DeckFault.{DeckFault}
use Rattle.read_decks.specs.DeckText.{IsDeck, loads_of}
use Rattle.read_decks.specs.DeckText as deck_lines
use Rattle.base_words.specs.Numeral.{digits_of}
use Rattle.read_replays.specs.declared.fault.InputFault.{InputFault}
use Rattle.read_replays.specs.InputsText.{AreInputs, given_in}
use Rattle.read_replays.specs.InputsText as input_lines
use Rattle.print_lines.specs.FaultText.{deck_text, input_text, note_text}
use Rattle.read_toml.specs.AllFaults.{AreAllFaults}
use Rattle.read_toml.specs.LongNotes.{long_notes_faults}
use Rattle.read_toml.specs.Complaint.{line_at, column_at}
use Rattle.base_notes.specs.declared.fault.NoteFault.{NoteFault}
use Rattle.read_toml.specs.Document.{Fault}
use Rattle.read_toml.specs.Refused.{IsDocument}
use Rattle.read_toml.specs.TimesDocument.{times_faults}
use Rattle.toml.specs.Data.{Members}
use Rattle.read_faults.specs.Alike.{more_alike, first_alike}
use Rattle.read_faults.specs.DeckFaults.{AreDeckFaults}
use Rattle.read_faults.specs.InputFaults.{AreInputFaults}
use Rattle.read_faults.specs.declared.placed_fault.PlacedFault.{PlacedFault}
use Rattle.read_faults.specs.declared.slip.Slip.{Slip}
use Rattle.read_faults.specs.declared.slip.Slip.TheVariants.{ByteOrderMark, Utf16, CarriageReturn}
use Rattle.read_faults.specs.declared.slip.Slip.TheVariants.{Empty, Tab, BlankAtEnd, CommentBehind}
use Rattle.read_faults.specs.declared.slip.Slip.TheVariants.{LetterO, LetterL, NoSign, ManyWords}
use Rattle.read_faults.specs.declared.slip.Slip.TheVariants.{InParts, SignBehind, Colon}
use Rattle.read_faults.specs.declared.slip.Slip.TheVariants.{NotTenWords, OneDigit, SmallLetters}

-- a text, and the name of the file that holds it
pub record Named : Type 0 where
  pub name : List ℕ
  pub bytes : List ℕ

-- where a fault stands: in the file of this name, at this line, if at one
abbrev pub at_line : List ℕ → Option ℕ → List ℕ
at_line name None = name ++ codes ": "
at_line name (Some line) = name ++ codes ":" ++ decimal line ++ codes ": "

-- the earlier line that a fault points at
abbrev pub earlier_text : List ℕ → Option ℕ → List ℕ
earlier_text name None = []
earlier_text name (Some line) = at_line name (Some line) ++ codes "the first is here\n"

-- what was done to a line
abbrev pub slip_said : Slip → List ℕ
slip_said ByteOrderMark = codes "the line begins with a byte order mark\n"
slip_said Utf16 = codes "the text is UTF-16\n"
slip_said CarriageReturn = codes "the line ends with a carriage return\n"
slip_said Empty = codes "the line is empty\n"
slip_said Tab = codes "the line has a tab\n"
slip_said BlankAtEnd = codes "the line ends with a blank\n"
slip_said CommentBehind = codes "a comment stands behind the words\n"
slip_said LetterO = codes "the line has a letter O for a zero\n"
slip_said LetterL = codes "the line has a letter l for a one\n"
slip_said NoSign = codes "a word has no sign\n"
slip_said ManyWords = codes "the line has more than 7 words\n"
slip_said InParts = codes "the instruction is in parts\n"
slip_said SignBehind = codes "a sign stands behind its word\n"
slip_said Colon = codes "a colon stands behind the location\n"
slip_said NotTenWords = codes "a card has ten words\n"
slip_said OneDigit = codes "the angle has two digits\n"
slip_said SmallLetters = codes "the line has small letters\n"

abbrev pub slip_text : List ℕ → Option ℕ → Option Slip → List ℕ
slip_text name line None = []
slip_text name line (Some slip) = at_line name line ++ slip_said slip

-- the lines of a fault that has a place: where it stands and its own line, and what explains it
abbrev pub placed_text : {Fault : Type 0} → List ℕ → List ℕ → PlacedFault Fault → List ℕ
placed_text line name placed =
    at_line name placed.line ++ line ++ earlier_text name placed.earlier
    ++ slip_text name placed.line placed.slip

-- the line that says how many more lines are like this one
abbrev pub more_text : List ℕ → ℕ → Option ℕ → List ℕ
more_text name more None = []
more_text name more (Some line) =
    at_line name None ++ decimal more ++ codes " more lines like line " ++ decimal line
    ++ codes "\n"

-- What is told of a fault at a line: its own lines. Where so many more are alike, the first of them
-- has how many they are behind its own lines, and nothing is told of the others.
abbrev pub alike_text : List ℕ → List ℕ → Option ℕ → Option ℕ → Option ℕ → List ℕ
alike_text name own line None first = own
alike_text name own line (Some more) first =
    if option_eq nat_eq first line then own ++ more_text name more line else []

-- what is told of a fault among all faults of its text
abbrev pub told_text : {Fault : Type 0} → List ℕ → List ℕ → List (PlacedFault Fault)
    → PlacedFault Fault → List ℕ
told_text line name faults placed =
    alike_text name (placed_text line name placed) placed.line (more_alike faults placed.slip)
    (first_alike faults placed.slip)

abbrev pub deck_fault_text : List ℕ → List (PlacedFault DeckFault) → PlacedFault DeckFault → List ℕ
deck_fault_text name faults placed = told_text (deck_text placed.fault) name faults placed

abbrev pub input_fault_text : List ℕ → List (PlacedFault InputFault) → PlacedFault InputFault
    → List ℕ
input_fault_text name faults placed = told_text (input_text placed.fault) name faults placed

-- the line of a fault of a timing table or of notes
abbrev pub note_fault_text : List ℕ → List ℕ → NoteFault → List ℕ
note_fault_text name part fault = at_line name None ++ note_text part fault

-- the line of what `toml` says
abbrev pub complaint_text : List ℕ → ℕ → ℕ → List ℕ → List ℕ
complaint_text name line column message =
    name ++ codes ":" ++ decimal line ++ codes ":" ++ decimal column ++ codes ": " ++ message
    ++ codes "\n"

-- where bytes are no document, the text is such a line, with some place in the bytes and some
-- message (that they are those of `toml` isn't stated); else it is nothing
abbrev pub IsComplaint : List ℕ → List ℕ → List ℕ → Type 0
IsComplaint name bytes text =
    (((document : Members) × IsDocument bytes document) × (text ≡ []))
    ⊎ (((document : Members) → ¬ IsDocument bytes document)
    × ((offset : ℕ) × (offset ≤ length bytes) × (message : List ℕ)
    × (text ≡ complaint_text name (line_at bytes offset) (column_at bytes offset) message)))

-- the lines of all faults of a timing table or of notes
pub record AreDocumentLines (faults_of : Members → List Fault) (part : List ℕ) (text : Named)
    (lines : List ℕ) : Type 0 where
  pub faults : List NoteFault
  pub are : AreAllFaults faults_of text.bytes faults
  pub complaint : List ℕ
  pub said : IsComplaint text.name text.bytes complaint
  pub all : lines ≡ flat_map (note_fault_text text.name part) faults ++ complaint

-- the lines of all faults of a text of inputs
abbrev pub AreInputLines : Named → List ℕ → Type 0
AreInputLines text lines =
    (faults : List (PlacedFault InputFault)) × AreInputFaults text.bytes faults
    × (lines ≡ flat_map (input_fault_text text.name faults) faults)

-- the line of a location that both a deck and inputs in the file of this name load
abbrev pub loaded_text : List ℕ → ℕ → List ℕ
loaded_text name location =
    at_line name None ++ codes "fault 47 inputs loaded " ++ digits_of 4 location ++ codes "\n"

-- the locations that sound inputs give words, and that a sound deck loads too, in order
abbrev pub loaded_twice : List deck_lines.Line → List input_lines.Line → List ℕ
loaded_twice cards stated =
    filter (λ location. is_some (loads_of cards location))
    (map (λ given. given.0) (given_in stated))

-- These are the locations that both load: none where one of them isn't sound.
abbrev pub AreLoadedTwice : List ℕ → List ℕ → List ℕ → Type 0
AreLoadedTwice deck inputs locations =
    ((cards : List deck_lines.Line) × IsDeck deck cards
    × ((stated : List input_lines.Line) × AreInputs inputs stated
    × (locations ≡ loaded_twice cards stated)))
    ⊎ ((¬ ((cards : List deck_lines.Line) × IsDeck deck cards)
    ⊎ ¬ ((stated : List input_lines.Line) × AreInputs inputs stated)) × (locations ≡ []))

-- the lines of all faults of inputs behind a deck, where there are any
abbrev pub AreLinesOfInputs : Named → Option Named → List ℕ → Type 0
AreLinesOfInputs deck None lines = lines ≡ []
AreLinesOfInputs deck (Some inputs) lines =
    (of_text : List ℕ) × AreInputLines inputs of_text
    × ((loaded : List ℕ) × AreLoadedTwice deck.bytes inputs.bytes loaded
    × (lines ≡ of_text ++ flat_map (loaded_text inputs.name) loaded))

-- the lines of all faults of a deck, a timing table and notes, and of inputs where there are any
pub record AreFaultLines (deck times notes : Named) (inputs : Option Named)
    (lines : List ℕ) : Type 0 where
  pub faults : List (PlacedFault DeckFault)
  pub are : AreDeckFaults deck.bytes faults
  pub of_times : List ℕ
  pub times_are : AreDocumentLines times_faults (codes "times") times of_times
  pub of_notes : List ℕ
  pub notes_are : AreDocumentLines long_notes_faults (codes "notes") notes of_notes
  pub of_inputs : List ℕ
  pub inputs_are : AreLinesOfInputs deck inputs of_inputs
  pub all : lines
      ≡ flat_map (deck_fault_text deck.name faults) faults ++ of_times ++ of_notes ++ of_inputs

-- Files, each by its name: the documents and the inputs that they hold, and why they hold none.
use Rattle.std.specs.Prelude.{◌≡◌, ℕ, ◌+◌, ◌<◌, ◌≤◌, List, [], ◌∷◌, length, Option, Some, None}
use Rattle.std.specs.Prelude.{IsSome, ◌⊎◌}
use Rattle.read_decks.specs.declared.deck.Deck.{Deck}
use Rattle.read_decks.specs.declared.deck.fault.DeckFault.TheVariants as of_deck
use Rattle.base_devices.specs.declared.whole.WholeError.{WholeError}
use Rattle.base_devices.specs.declared.whole.WholeError.TheVariants as why
use Rattle.base_notes.specs.declared.times.Times.{Times}
use Rattle.base_notes.specs.Allowed.{Notes}
use Rattle.read_toml.specs.declared.notes.read.NotesRead.{NotesRead}
use Rattle.read_toml.specs.Says.{SayTimes, SayNotes, SayNotesOf}
use Rattle.read_replays.specs.declared.fault.InputFault.TheVariants as of_inputs
use Rattle.read_replays.specs.declared.inputs.Inputs.{Inputs}
use Rattle.read_documents.specs.declared.documents.Documents.{Documents}
use Rattle.print_lines.specs.declared.fault.Fault.{Fault}
use Rattle.print_lines.specs.declared.fault.Fault.TheVariants as fault
use Rattle.print_lines.specs.declared.part.Part as parts
use Rattle.print_lines.specs.declared.part.Part.TheVariants as part
use Rattle.print_lines.specs.declared.part.PartFault.TheVariants as what
use Rattle.read_documents.specs.Asked.{NamedFile, most_of}
use Rattle.read_documents.specs.Documents.{SaysDeck, SayInputs, RefusesDeck, RefusesTimes}
use Rattle.read_documents.specs.Documents.{RefusesNotes}
use Rattle.read_documents.specs.Documents.{RefusesInputs}

-- What a source tells of its files, by how many are sought before and by the name: nothing; that
-- the file can't be opened; or its bytes. (A name may give other bytes when it is sought again, as
-- a pipe's does.)
abbrev pub FilesTold : Type 0
FilesTold = ℕ → List ℕ → Option (Option (List ℕ))

-- what it tells once one more was sought
abbrev pub behind : FilesTold → FilesTold
behind files sought = files (sought + 1)

-- What a fetch gives by what is told of the file: of an untold one anything, of one that can't be
-- opened nothing, else its bytes.
abbrev pub IsFetched : Option (Option (List ℕ)) → Option (Option (List ℕ)) → Type 0
IsFetched None fetched = Unit {0}
IsFetched (Some None) fetched = fetched ≡ None
IsFetched (Some (Some bytes)) fetched = fetched ≡ Some (Some bytes)

-- what the file of each part holds: its bytes; or none, where it can't be opened
abbrev pub Contents : Type 0
Contents = parts.Part → Option (List ℕ)

-- it is told of these files, sought one after the other
abbrev pub AreTold : FilesTold → Contents → List NamedFile → Type 0
AreTold files held [] = Unit {0}
AreTold files held (one ∷ others) =
    (files 0 one.name ≡ Some (held one.part)) × AreTold (behind files) held others

-- the fault of a part whose text isn't read
abbrev pub fault_by : parts.Part → WholeError → Fault
fault_by part.Deck why.Read = fault.Deck of_deck.Read
fault_by part.Deck why.Memory = fault.Deck of_deck.Memory
fault_by part.Deck why.TooLong = fault.Deck of_deck.TooLong
fault_by part.Inputs why.Read = fault.Inputs of_inputs.Read
fault_by part.Inputs why.Memory = fault.Inputs of_inputs.Memory
fault_by part.Inputs why.TooLong = fault.Inputs of_inputs.TooLong
fault_by of why.Read = fault.Part of what.Read
fault_by of why.Memory = fault.Memory
fault_by of why.TooLong = fault.Part of what.TooLong

-- a file's bytes, within the limit of its part
abbrev pub HoldsText : parts.Part → Option (List ℕ) → List ℕ → Type 0
HoldsText of file bytes = (file ≡ Some bytes) × (length bytes < most_of of)

-- Why a file that can be opened isn't read: a reading of it failed (that one did is said by the
-- number of failed reads, `reads_failed`); it is past its part's limit; or the program is out of
-- memory (which is tested, not stated here).
abbrev pub IsNotRead : parts.Part → Option (List ℕ) → WholeError → Type 0
IsNotRead of file why.Read = IsSome file
IsNotRead of file why.Memory = IsSome file
IsNotRead of file why.TooLong =
    (bytes : List ℕ) × (file ≡ Some bytes) × (most_of of ≤ length bytes)

-- why the text of a part can't be had: its file can't be opened, or isn't read
abbrev pub HoldsNoText : parts.Part → Option (List ℕ) → Fault → Type 0
HoldsNoText of file one =
    ((one ≡ fault.Part of what.Open) × (file ≡ None))
    ⊎ ((error : WholeError) × (one ≡ fault_by of error) × IsNotRead of file error)

-- the part's file holds a text that says this
abbrev pub Holds : {A : Type 0} → parts.Part → (List ℕ → A → Type 0) → Option (List ℕ) → A → Type 0
Holds of Says file said = (bytes : List ℕ) × HoldsText of file bytes × Says bytes said

-- why it holds none: its text can't be had, or is refused
abbrev pub HoldsNone : parts.Part → (List ℕ → Fault → Type 0) → Option (List ℕ) → Fault → Type 0
HoldsNone of Refuses file one =
    HoldsNoText of file one
    ⊎ ((bytes : List ℕ) × HoldsText of file bytes × Refuses bytes one)

-- the file is that of a deck, a timing table, notes (short ones, or such as are read), inputs
abbrev pub HoldsDeck : Option (List ℕ) → Deck → Type 0
HoldsDeck = Holds part.Deck SaysDeck

abbrev pub HoldsTimes : Option (List ℕ) → Times → Type 0
HoldsTimes = Holds part.Times SayTimes

abbrev pub HoldsNotes : Option (List ℕ) → Notes → Type 0
HoldsNotes = Holds part.Notes SayNotes

abbrev pub HoldsNotesOf : NotesRead → Option (List ℕ) → Notes → Type 0
HoldsNotesOf read = Holds part.Notes (SayNotesOf read)

abbrev pub HoldsInputs : Option (List ℕ) → Inputs → Type 0
HoldsInputs = Holds part.Inputs SayInputs

-- why it is that of none
abbrev pub HoldsNoDeck : Option (List ℕ) → Fault → Type 0
HoldsNoDeck = HoldsNone part.Deck RefusesDeck

abbrev pub HoldsNoTimes : Option (List ℕ) → Fault → Type 0
HoldsNoTimes = HoldsNone part.Times RefusesTimes

abbrev pub HoldsNoNotes : NotesRead → Option (List ℕ) → Fault → Type 0
HoldsNoNotes read = HoldsNone part.Notes (RefusesNotes read)

abbrev pub HoldsNoInputs : Option (List ℕ) → Fault → Type 0
HoldsNoInputs = HoldsNone part.Inputs RefusesInputs

-- the files of three parts are those of documents, where such notes are read
pub record AreHeld (read : NotesRead) (held : Contents) (documents : Documents) : Type 0 where
  pub deck : HoldsDeck (held part.Deck) documents.deck
  pub times : HoldsTimes (held part.Times) documents.times
  pub notes : HoldsNotesOf read (held part.Notes) documents.notes

-- why they are not: the first of them, the deck, the timing table, the notes, that is refused
abbrev pub AreNotHeld : NotesRead → Contents → Fault → Type 0
AreNotHeld read held one =
    HoldsNoDeck (held part.Deck) one
    ⊎ ((deck : Deck) × HoldsDeck (held part.Deck) deck
    × (HoldsNoTimes (held part.Times) one
    ⊎ ((times : Times) × HoldsTimes (held part.Times) times
    × HoldsNoNotes read (held part.Notes) one)))

-- and a fourth is that of inputs
abbrev pub AreHeldWithInputs : NotesRead → Contents → Documents × Inputs → Type 0
AreHeldWithInputs read held found =
    AreHeld read held found.0 × HoldsInputs (held part.Inputs) found.1

-- why they are not: one of the three is refused, or else that of the inputs
abbrev pub AreNotHeldWithInputs : NotesRead → Contents → Fault → Type 0
AreNotHeldWithInputs read held one =
    AreNotHeld read held one
    ⊎ (((documents : Documents) × AreHeld read held documents)
    × HoldsNoInputs (held part.Inputs) one)

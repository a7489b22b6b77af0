-- The documents of a program, a deck, a timing table and notes: what is known of them, and which
-- texts say them.
use Rattle.std.specs.Prelude.{ℕ, List}
use Rattle.read_decks.specs.declared.deck.Deck.{Deck}
use Rattle.read_decks.specs.declared.deck.fault.DeckFault.{DeckFault}
use Rattle.read_decks.specs.declared.deck.fault.DeckFault.TheVariants as of_deck
use Rattle.read_decks.specs.DeckText as text
use Rattle.read_decks.specs.DeckOfLines.{IsDeckOf}
use Rattle.base_notes.specs.declared.times.Times.{Times}
use Rattle.read_toml.specs.declared.notes.read.NotesRead.{NotesRead}
use Rattle.read_toml.specs.Says.{SayTimes, SayNotesOf, AreNoTimes, AreNoNotesOf}
use Rattle.read_replays.specs.declared.fault.InputFault.{InputFault}
use Rattle.read_replays.specs.declared.fault.InputFault.TheVariants as of_inputs
use Rattle.read_replays.specs.declared.inputs.Inputs.{Inputs}
use Rattle.read_replays.specs.Inputs.{AreInputsOf}
use Rattle.read_replays.specs.InputsText as replay
use Rattle.flow_graph.specs.Walk.{Setting}
use Rattle.flow_graph.specs.SettingOf.{setting}
use Rattle.read_documents.specs.declared.documents.Documents.{Documents}
use Rattle.print_lines.specs.declared.fault.Fault.{Fault}
use Rattle.print_lines.specs.declared.fault.Fault.TheVariants as fault

-- what their walks are in
abbrev pub setting_of : Documents → Setting
setting_of documents = setting documents.deck documents.times documents.notes

-- the text is that of the deck
abbrev pub SaysDeck : List ℕ → Deck → Type 0
SaysDeck bytes deck = (lines : List text.Line) × text.IsDeck bytes lines × IsDeckOf deck lines

-- why a text is no deck (that the program is out of memory is tested, not stated)
abbrev pub IsNoDeck : List ℕ → DeckFault → Type 0
IsNoDeck bytes of_deck.Memory = Unit {0}
IsNoDeck bytes one = text.IsRefused bytes one

-- the text is that of inputs
abbrev pub SayInputs : List ℕ → Inputs → Type 0
SayInputs bytes inputs =
    (lines : List replay.Line) × replay.AreInputs bytes lines × AreInputsOf inputs lines

-- why a text is no inputs (that the program is out of memory is tested, not stated)
abbrev pub AreNoInputs : List ℕ → InputFault → Type 0
AreNoInputs bytes of_inputs.Memory = Unit {0}
AreNoInputs bytes one = replay.IsRefused bytes one

-- the fault of a text that is refused
abbrev pub RefusesDeck : List ℕ → Fault → Type 0
RefusesDeck bytes (fault.Deck one) = IsNoDeck bytes one
RefusesDeck bytes _ = ⊥

abbrev pub RefusesTimes : List ℕ → Fault → Type 0
RefusesTimes bytes (fault.Times one) = AreNoTimes bytes one
RefusesTimes bytes _ = ⊥

abbrev pub RefusesNotes : NotesRead → List ℕ → Fault → Type 0
RefusesNotes read bytes (fault.Notes one) = AreNoNotesOf read bytes one
RefusesNotes read bytes _ = ⊥

abbrev pub RefusesInputs : List ℕ → Fault → Type 0
RefusesInputs bytes (fault.Inputs one) = AreNoInputs bytes one
RefusesInputs bytes _ = ⊥

-- the texts of documents
pub record Texts : Type 0 where
  pub deck : List ℕ
  pub times : List ℕ
  pub notes : List ℕ

abbrev pub texts_of : List ℕ → List ℕ → List ℕ → Texts
texts_of deck times notes = record { deck = deck; times = times; notes = notes }

-- The texts say these documents, where such notes are read: short ones alone, or long ones.
pub record Say (read : NotesRead) (texts : Texts) (documents : Documents) : Type 0 where
  pub deck : SaysDeck texts.deck documents.deck
  pub times : SayTimes texts.times documents.times
  pub notes : SayNotesOf read texts.notes documents.notes

-- Why texts say no documents: the first of them that is refused, the deck, the timing table or the
-- notes.
abbrev pub SayNone : NotesRead → Texts → Fault → Type 0
SayNone read texts (fault.Deck one) = IsNoDeck texts.deck one
SayNone read texts (fault.Times one) =
    ((deck : Deck) × SaysDeck texts.deck deck) × AreNoTimes texts.times one
SayNone read texts (fault.Notes one) =
    ((deck : Deck) × SaysDeck texts.deck deck) × ((times : Times) × SayTimes texts.times times)
    × AreNoNotesOf read texts.notes one
SayNone read texts _ = ⊥

-- Texts without faults are refused for lack of memory alone.
use Rattle.std.proofs.Common.{◌≡◌, ℕ, List, [], ◌∷◌, Some, refl, ap, sym, subst, ◌∙◌}
use Rattle.read_decks.specs.declared.deck.fault.DeckFault.{DeckFault}
use Rattle.read_decks.specs.declared.deck.fault.DeckFault.TheVariants as of_deck
use Rattle.read_decks.specs.DeckText.{IsRefused as IsDeckRefused}
use Rattle.base_notes.specs.declared.fault.NoteFault.{NoteFault}
use Rattle.base_notes.specs.declared.fault.NoteFault.TheVariants as of_note
use Rattle.print_lines.specs.declared.fault.Fault.{Fault}
use Rattle.print_lines.specs.declared.fault.Fault.TheVariants as faults
use Rattle.read_documents.specs.Documents.{IsNoDeck, SayNone, Texts}
use Rattle.read_toml.specs.declared.notes.read.NotesRead.TheVariants.{Long}
use Rattle.read_toml.specs.Document.{Fault as DocumentFault}
use Rattle.read_toml.specs.LongNotes.{long_notes_faults}
use Rattle.read_toml.specs.Refused.{Begin, IsDocument, IsRefused}
use Rattle.read_toml.specs.TimesDocument.{times_faults}
use Rattle.program_run.specs.Checked.{IsMemoryOfText}
use Rattle.toml.specs.Data.{Members}

-- a deck that isn't refused
deck_memory : (bytes : List ℕ) (one : DeckFault) → ((fault : DeckFault) → ¬ IsDeckRefused bytes fault)
    → IsNoDeck bytes one → one ≡ of_deck.Memory
deck_memory bytes of_deck.Memory never is = refl
deck_memory bytes of_deck.Read never is = absurd is
deck_memory bytes (of_deck.Card line) never is = absurd (never (of_deck.Card line) is)
deck_memory bytes (of_deck.Twice location) never is = absurd (never (of_deck.Twice location) is)
deck_memory bytes of_deck.NoStart never is = absurd (never of_deck.NoStart is)
deck_memory bytes (of_deck.TwoStarts line) never is = absurd (never (of_deck.TwoStarts line) is)
deck_memory bytes (of_deck.PastDrum line) never is = absurd (never (of_deck.PastDrum line) is)
deck_memory bytes of_deck.TooLong never is = absurd (never of_deck.TooLong is)

-- bytes are one document, and one without faults has no first
no_first : (mine : Members → List DocumentFault) (bytes : List ℕ) (D other : Members) (one : DocumentFault)
    → IsDocument bytes D → mine D ≡ [] → IsDocument bytes other → Begin (mine other) one → ⊥
no_first mine bytes D other one is none too begin =
    let both : Some D ≡ Some other = sym is.1 ∙ too.1 in
    let same : D ≡ other = cc in
    let clash : [] ≡ one ∷ begin.0 = sym none ∙ ap mine same ∙ begin.1 in
    cc

-- a document without faults
memory_alone : (mine : Members → List DocumentFault) (bytes : List ℕ) (D : Members) (one : NoteFault)
    → IsDocument bytes D → mine D ≡ [] → IsRefused mine bytes one → one ≡ of_note.Memory
memory_alone mine bytes D of_note.Memory is none refused = refl
memory_alone mine bytes D of_note.Toml is none refused = absurd (refused D is)
memory_alone mine bytes D (of_note.Missing path) is none refused =
    absurd (no_first mine bytes D refused.0 _ is none refused.1 refused.2)
memory_alone mine bytes D (of_note.Unknown path) is none refused =
    absurd (no_first mine bytes D refused.0 _ is none refused.1 refused.2)
memory_alone mine bytes D (of_note.Range path) is none refused =
    absurd (no_first mine bytes D refused.0 _ is none refused.1 refused.2)
memory_alone mine bytes D (of_note.Kind path) is none refused =
    absurd (no_first mine bytes D refused.0 _ is none refused.1 refused.2)
memory_alone mine bytes D (of_note.TwoMarks from onto) is none refused =
    absurd (no_first mine bytes D refused.0 _ is none refused.1 refused.2)
memory_alone mine bytes D (of_note.TwoLists location) is none refused =
    absurd (no_first mine bytes D refused.0 _ is none refused.1 refused.2)

pub only_memory : (texts : Texts) (fault : Fault) (times notes : Members)
    → ((fault : DeckFault) → ¬ IsDeckRefused texts.deck fault)
    → IsDocument texts.times times → times_faults times ≡ []
    → IsDocument texts.notes notes → long_notes_faults notes ≡ []
    → SayNone Long texts fault → IsMemoryOfText fault
only_memory texts (faults.Deck one) times notes never is_times no_times is_notes no_notes none =
    subst (λ (f : DeckFault). IsMemoryOfText (faults.Deck f)) (sym (deck_memory texts.deck one never none)) tt
only_memory texts (faults.Times one) times notes never is_times no_times is_notes no_notes none =
    subst (λ (f : NoteFault). IsMemoryOfText (faults.Times f))
    (sym (memory_alone times_faults texts.times times one is_times no_times none.1)) tt
only_memory texts (faults.Notes one) times notes never is_times no_times is_notes no_notes none =
    subst (λ (f : NoteFault). IsMemoryOfText (faults.Notes f))
    (sym (memory_alone long_notes_faults texts.notes notes one is_notes no_notes none.2)) tt
only_memory texts faults.NoPart times notes never is_times no_times is_notes no_notes none = absurd none
only_memory texts (faults.Part part what) times notes never is_times no_times is_notes no_notes none = absurd none
only_memory texts faults.Memory times notes never is_times no_times is_notes no_notes none = absurd none
only_memory texts (faults.Inputs one) times notes never is_times no_times is_notes no_notes none = absurd none
only_memory texts (faults.Refused refusal) times notes never is_times no_times is_notes no_notes none = absurd none
only_memory texts (faults.Loaded location) times notes never is_times no_times is_notes no_notes none = absurd none

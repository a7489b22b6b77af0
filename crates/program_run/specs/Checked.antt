-- What a check of texts comes to, as it is held.
use Rattle.std.specs.Prelude.{◌≡◌, ◌≢◌, [], Option}
use Rattle.read_decks.specs.InDeck.{loads_in, start_in}
use Rattle.read_decks.specs.declared.deck.fault.DeckFault.TheVariants as of_deck
use Rattle.base_notes.specs.declared.fault.NoteFault.TheVariants as of_note
use Rattle.read_toml.specs.declared.notes.read.NotesRead.TheVariants.{Long}
use Rattle.program_command.specs.declared.command.Files.{Files}
use Rattle.print_lines.specs.declared.fault.Fault.{Fault}
use Rattle.print_lines.specs.declared.fault.Fault.TheVariants as fault
use Rattle.check_findings.specs.Lacking.{are_long, words_altered}
use Rattle.check_findings.specs.LackingOf.{words_in}
use Rattle.check_deck.specs.Findings.{AreFindings}
use Rattle.check_deck.specs.FindingsOf.{found_in, is_long_in}
use Rattle.read_faults.specs.FaultLines.{Named}
use Rattle.read_documents.specs.declared.documents.Documents.{Documents}
use Rattle.read_documents.specs.Documents.{Texts, Say}
use Rattle.program_run.specs.declared.checking.Checked.{Checked}
use Rattle.program_run.specs.declared.checking.Checked.TheVariants.{Faulty, Sound}
use Rattle.program_run.specs.SaysCheck.{AreLinesOfFaults}

-- The lines of the texts' faults, if they have any; else what is found of the documents that they
-- say.
abbrev pub IsChecked : Files → Texts → Option Named → Checked → Type 0
IsChecked files texts inputs (Faulty lines) =
    (lines.items ≢ []) × AreLinesOfFaults files texts inputs lines.items
IsChecked files texts inputs (Sound findings lacking) =
    (documents : Documents) × Say Long texts documents
    × AreFindings (loads_in documents.deck) documents.notes (start_in documents.deck)
    (found_in findings)
    × (is_long_in findings ≡ are_long documents.notes (found_in findings))

-- beside what is found stands what is lacking
abbrev pub AreLacking : Checked → Type 0
AreLacking (Faulty lines) = Unit {0}
AreLacking (Sound findings lacking) = words_in lacking ≡ words_altered (found_in findings)

-- memory ran out while a text was read
abbrev pub IsMemoryOfText : Fault → Type 0
IsMemoryOfText (fault.Deck of_deck.Memory) = Unit {0}
IsMemoryOfText (fault.Times of_note.Memory) = Unit {0}
IsMemoryOfText (fault.Notes of_note.Memory) = Unit {0}
IsMemoryOfText _ = ⊥

-- What a check says of texts, and when.
use Rattle.std.specs.Prelude.{◌≡◌, ◌≢◌, ℕ, if◌then◌else◌, List, [], Option, ◌⊎◌}
use Rattle.std.specs.List.{list_all}
use Rattle.read_decks.specs.InDeck.{loads_in, start_in}
use Rattle.read_toml.specs.declared.notes.read.NotesRead.TheVariants.{Long}
use Rattle.program_command.specs.declared.command.Files.{Files}
use Rattle.print_lines.specs.declared.fault.Fault.{Fault}
use Rattle.print_lines.specs.declared.status.Status.{Status}
use Rattle.print_lines.specs.declared.status.Status.TheVariants.{Done, Refused}
use Rattle.print_lines.specs.FaultStatus.{IsOutOfMemory}
use Rattle.print_lines.specs.Reply.{Reply, lists, says}
use Rattle.check_findings.specs.Finding.{Finding, may_be_meant}
use Rattle.check_findings.specs.Lacking.{are_long, check_text}
use Rattle.check_deck.specs.Findings.{AreFindings}
use Rattle.read_faults.specs.FaultLines as printed
use Rattle.read_documents.specs.declared.documents.Documents.{Documents}
use Rattle.read_documents.specs.Documents.{Say, Texts}
use Rattle.program_limits.specs.Limits.{IsDiscoveryFault}

-- what was found, and how the program ends after it: as with a refusal, unless all may be meant
abbrev pub status_after_check : List Finding → Status
status_after_check findings = if list_all may_be_meant findings then Done else Refused

abbrev pub findings_reply : Documents → List Finding → Reply
findings_reply documents findings =
    says (check_text (are_long documents.notes findings) findings) (status_after_check findings)

-- all that keeps the deck from having a bound under its notes
abbrev pub SaysFindings : Documents → Reply → Type 0
SaysFindings documents reply =
    (findings : List Finding)
    × AreFindings (loads_in documents.deck) documents.notes (start_in documents.deck) findings
    × (reply ≡ findings_reply documents findings)

-- a text with its file's name
abbrev pub in_file_of : List ℕ → List ℕ → printed.Named
in_file_of name bytes = record { name = name; bytes = bytes }

-- these are the lines of all faults of three texts, in the files of these names, and of inputs,
-- where there are any
abbrev pub AreLinesOfFaults : Files → Texts → Option printed.Named → List ℕ → Type 0
AreLinesOfFaults files texts inputs lines =
    printed.AreFaultLines (in_file_of files.deck.now texts.deck)
    (in_file_of files.times.now texts.times) (in_file_of files.notes.now texts.notes) inputs lines

-- All faults of texts, if they have any; else all that keeps the deck that they say from having a
-- bound.
abbrev pub SaysCheck : Files → Texts → Option printed.Named → Reply → Type 0
SaysCheck files texts inputs reply =
    ((lines : List ℕ) × (lines ≢ []) × AreLinesOfFaults files texts inputs lines
    × (reply ≡ lists lines))
    ⊎ ((documents : Documents) × Say Long texts documents × SaysFindings documents reply)

-- why nothing is said of them: that the program is out of memory; or of the deck that they say,
-- that there are too many nodes
abbrev pub RefusesCheck : Texts → Fault → Type 0
RefusesCheck texts fault = IsOutOfMemory fault
    ⊎ ((documents : Documents) × Say Long texts documents × IsDiscoveryFault documents fault)

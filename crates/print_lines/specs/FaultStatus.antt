-- How the program ends after a fault: a part whose bytes can't be had, and lack of memory, are
-- failures; all else is a refusal.
use Rattle.std.specs.Prelude.{ℕ, Result, Ok, Err}
use Rattle.read_decks.specs.declared.deck.fault.DeckFault.{DeckFault}
use Rattle.read_decks.specs.declared.deck.fault.DeckFault.TheVariants as deck
use Rattle.flow_graph.specs.declared.refusal.Refusal as refused
use Rattle.flow_graph.specs.declared.refusal.Refusal.TheVariants as refusal
use Rattle.read_replays.specs.declared.fault.InputFault.{InputFault}
use Rattle.read_replays.specs.declared.fault.InputFault.TheVariants as input
use Rattle.base_notes.specs.declared.fault.NoteFault.{NoteFault}
use Rattle.base_notes.specs.declared.fault.NoteFault.TheVariants as note
use Rattle.print_lines.specs.declared.fault.Fault.{Fault}
use Rattle.print_lines.specs.declared.fault.Fault.TheVariants.{NoPart, Part, Memory, Deck, Times}
use Rattle.print_lines.specs.declared.fault.Fault.TheVariants.{Notes, Inputs, Refused, Loaded}
use Rattle.print_lines.specs.declared.part.PartFault.TheVariants as what
use Rattle.print_lines.specs.declared.status.Status as status
use Rattle.print_lines.specs.declared.status.Status.TheVariants as ends

abbrev pub after_deck : DeckFault → status.Status
after_deck deck.Read = ends.Failed
after_deck deck.Memory = ends.Failed
after_deck _ = ends.Refused

abbrev pub after_note : NoteFault → status.Status
after_note note.Memory = ends.Failed
after_note _ = ends.Refused

abbrev pub after_input : InputFault → status.Status
after_input input.Read = ends.Failed
after_input input.Memory = ends.Failed
after_input _ = ends.Refused

abbrev pub after_refusal : refused.Refusal → status.Status
after_refusal refusal.Memory = ends.Failed
after_refusal _ = ends.Refused

-- how many failed reads a fault tells of: one, or none
abbrev pub reads_failed : Fault → ℕ
reads_failed (Part part what.Read) = 1
reads_failed (Deck deck.Read) = 1
reads_failed (Inputs input.Read) = 1
reads_failed _ = 0

-- how many failed reads the outcome of a reading tells of: none where there is no fault
abbrev pub failed_reads : {A : Type 0} → Result A Fault → ℕ
failed_reads (Ok found) = 0
failed_reads (Err fault) = reads_failed fault

abbrev pub status_after : Fault → status.Status
status_after NoPart = ends.Refused
status_after (Part part fault) = ends.Failed
status_after Memory = ends.Failed
status_after (Deck fault) = after_deck fault
status_after (Times fault) = after_note fault
status_after (Notes fault) = after_note fault
status_after (Inputs fault) = after_input fault
status_after (Refused fault) = after_refusal fault
status_after (Loaded location) = ends.Refused

-- the program is out of memory (which is tested, not stated)
abbrev pub IsOutOfMemory : Fault → Type 0
IsOutOfMemory Memory = Unit {0}
IsOutOfMemory (Refused refusal.Memory) = Unit {0}
IsOutOfMemory _ = ⊥

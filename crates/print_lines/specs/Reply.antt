-- What the program has to say.
use Rattle.std.specs.Prelude.{◌≡◌, ◌≢◌, ℕ, List, Option, Some, None, ◌⊎◌}
use Rattle.print_lines.specs.declared.fault.Fault.{Fault}
use Rattle.print_lines.specs.declared.status.Status.{Status}
use Rattle.print_lines.specs.declared.status.Status.TheVariants.{Done}
use Rattle.print_lines.specs.BoundText.{bound_text}
use Rattle.print_lines.specs.FaultStatus.{reads_failed, status_after}
use Rattle.print_lines.specs.FaultText.{fault_text}

-- A text, for standard output or for standard error, and how the program ends; the lines of all
-- faults of texts, for standard error; or a text that is given up, since a write of it fails.
pub data Reply : Type 0 where
  says : List ℕ → Status → Reply
  complains : List ℕ → Status → Reply
  lists : List ℕ → Reply
  breaks_off : List ℕ → Reply

-- a bound, and the line of a fault
abbrev pub bound_reply : ℕ → Reply
bound_reply bound = says (bound_text bound) Done

abbrev pub fault_reply : Fault → Reply
fault_reply fault = complains (fault_text fault) (status_after fault)

-- That this number of reads failed is told by the reply: it is the line of a fault that tells of as
-- many; or none failed, and it is no fault's line.
abbrev pub TellsOfReads : ℕ → Reply → Type 0
TellsOfReads failures reply =
    ((fault : Fault) × (failures ≡ reads_failed fault) × (reply ≡ fault_reply fault))
    ⊎ ((failures ≡ 0) × ((fault : Fault) → reply ≢ fault_reply fault))

-- the reply is the line of this fault, or of none
abbrev pub IsLineOfFault : Option Fault → Reply → Type 0
IsLineOfFault None reply = (fault : Fault) → reply ≢ fault_reply fault
IsLineOfFault (Some fault) reply = reply ≡ fault_reply fault

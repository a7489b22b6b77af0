-- What the code's values hold of the lines of faults.
use Rattle.std.specs.Prelude.{ℕ, List, [], Option, Some, None, string_bytes}
use Rattle.read_toml.specs.declared.complaint.Complaint.{Complaint}
use Rattle.read_faults.specs.declared.named_text.NamedText.{NamedText}
use Rattle.read_faults.specs.FaultLines.{Named, complaint_text}

-- the name and the bytes of a text, as the code has it
abbrev pub named : NamedText → Named
named text = record { name = text.name.now; bytes = text.bytes.now }

-- the line of what `toml` says, if it says anything
abbrev pub complaint_said : List ℕ → Option Complaint → List ℕ
complaint_said name None = []
complaint_said name (Some complaint) =
    complaint_text name complaint.line complaint.column (string_bytes complaint.message)

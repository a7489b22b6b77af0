-- Parts that say no documents join none.
use Rattle.std.proofs.Common.{ℕ, List}
use Rattle.print_lines.specs.declared.fault.Fault.{Fault}
use Rattle.print_lines.specs.declared.fault.Fault.TheVariants as faults
use Rattle.read_toml.specs.declared.notes.read.NotesRead.TheVariants.{Short}
use Rattle.read_documents.specs.Documents.{SayNone, Texts}
use Rattle.read_documents.specs.Joined.{AreParts, JoinsNone}

pub joins_none : (text : List ℕ) (parts : Texts) (fault : Fault) → AreParts text parts → SayNone Short parts fault
    → JoinsNone text fault
joins_none text parts (faults.Refused refusal) are none = absurd none
joins_none text parts faults.NoPart are none = absurd none
joins_none text parts (faults.Part part what) are none = absurd none
joins_none text parts faults.Memory are none = absurd none
joins_none text parts (faults.Deck fault) are none = (parts, are, none)
joins_none text parts (faults.Times fault) are none = (parts, are, none)
joins_none text parts (faults.Notes fault) are none = (parts, are, none)
joins_none text parts (faults.Inputs fault) are none = absurd none
joins_none text parts (faults.Loaded location) are none = absurd none

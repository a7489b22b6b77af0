-- What has gone out of a text that is written.
use Rattle.std.specs.Prelude.{ℕ, ◌<◌, List, length, take, Option, Result, Ok, Err}
use Rattle.std.specs.Io.KnownBytes.{Appends}
use Rattle.print_walks.specs.declared.failed_write.WriteFault.{WriteFault}

-- A text was written: all of it; or a write failed, and a prefix of it has gone out, of as many
-- bytes as the fault says.
abbrev pub IsWritten : {A : Type 0} → Option (List ℕ) → Option (List ℕ) → Result A WriteFault
    → List ℕ → Type 0
IsWritten before after (Ok done) text = Appends before after text
IsWritten before after (Err fault) text =
    (fault.sent < length text) × Appends before after (take fault.sent text)

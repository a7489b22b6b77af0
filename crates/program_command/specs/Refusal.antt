-- Why a command line has no command.
use Rattle.std.specs.Prelude.{◌≡◌, ◌≢◌}
use Rattle.clap.specs.Kinds.{IsAmong, Kinds}
use Rattle.clap.specs.declared.error.kind.ErrorKind.{ErrorKind}
use Rattle.clap.specs.declared.error.kind.ErrorKind.TheVariants.{DisplayHelp, OutOfMemory}
use Rattle.program_command.specs.declared.refused.Refused.{Refused}
use Rattle.program_command.specs.declared.refused.Refused.TheVariants.{Help, Usage, Memory}

-- a refusal fits the kind of clap's error
abbrev pub FitsKind : ErrorKind → Refused → Type 0
FitsKind kind (Help text) = kind ≡ DisplayHelp
FitsKind kind (Usage text) = (kind ≢ DisplayHelp) × (kind ≢ OutOfMemory)
FitsKind kind Memory = Unit {0}

-- a refusal fits one of the kinds that clap states for a line; lack of memory, which is in no list,
-- always fits
abbrev pub FitsAmong : Kinds → Refused → Type 0
FitsAmong kinds (Help text) = IsAmong DisplayHelp kinds
FitsAmong kinds (Usage text) =
    (kind : ErrorKind) × IsAmong kind kinds × (kind ≢ DisplayHelp) × (kind ≢ OutOfMemory)
FitsAmong kinds Memory = Unit {0}

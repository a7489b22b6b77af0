-- A refusal that fits the kind of clap's error.
use Rattle.std.proofs.Common.{◌≡◌, inl, inr, refl, subst}
use Rattle.clap.specs.Kinds.{HasKind, IsAmong, Kinds}
use Rattle.clap.specs.Words.{kind_of}
use Rattle.clap.specs.declared.error.Error.{Error}
use Rattle.clap.specs.declared.error.kind.ErrorKind.{ErrorKind}
use Rattle.clap.specs.declared.error.kind.ErrorKind.TheVariants.{OutOfMemory}
use Rattle.program_command.specs.declared.refused.Refused.{Refused}
use Rattle.program_command.specs.declared.refused.Refused.TheVariants.{Help, Usage, Memory}
use Rattle.program_command.specs.Refusal.{FitsAmong, FitsKind}

-- a lack of memory is refused as such
pub fits_memory : (kind : ErrorKind) (refused : Refused) → FitsKind kind refused → kind ≡ OutOfMemory → refused ≡ Memory
fits_memory kind (Help text) fits memory = cc
fits_memory kind (Usage text) fits memory = absurd (fits.1 memory)
fits_memory kind Memory fits memory = refl

-- a refusal fits the kinds that the error has one of
pub fits_among : (kinds : Kinds) (error : Error) (refused : Refused) → HasKind kinds error
    → FitsKind (kind_of error) refused → FitsAmong kinds refused
fits_among kinds error (Help text) (inl memory) fits = cc
fits_among kinds error (Help text) (inr among) fits = subst (λ kind. IsAmong kind kinds) fits among
fits_among kinds error (Usage text) (inl memory) fits = absurd (fits.1 memory)
fits_among kinds error (Usage text) (inr among) fits = (kind_of error, among, fits.0, fits.1)
fits_among kinds error Memory has fits = tt

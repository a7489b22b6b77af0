use Rattle.proved_laws.proofs.Markings.{marked_closed}
use Rattle.proved_laws.proofs.loops.marks_are_enough.Goals as goal

pub returns : goal.returns
returns c loads notes start edges marked closing are first others executed closed =
    marked_closed loads notes start edges marked closing are first others executed closed

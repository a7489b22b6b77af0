use Rattle.std.proofs.Common.{◌≡◌, false, true}
use Rattle.program_command.proofs.found.file_in.Goals as goal

pub unreachable-requires : goal.unreachable-requires
unreachable-requires c =
    let bad : false ≡ true = rw c.in_default.ensures at c.requires in
    cc

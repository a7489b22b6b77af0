use Rattle.std.proofs.Common.{length}
use Rattle.caller.proofs.memory_files.+text_of.Given as goal

abbrev pub decreases-text_of : goal.decreases-text_of
decreases-text_of l = length l.files.now

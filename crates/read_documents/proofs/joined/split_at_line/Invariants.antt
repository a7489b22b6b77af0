use Rattle.std.proofs.Common.{ℕ, ◌<◌}
use Rattle.read_documents.proofs.Cuts.{BeginsAt}
use Rattle.read_documents.proofs.joined.split_at_line.Given as goal

-- no line so far is the mark
abbrev pub invariant-loop-at : goal.invariant-loop-at
invariant-loop-at l = (k : ℕ) → k < l.at → ¬ BeginsAt l.mark l.text k

use Rattle.std.proofs.Common.{ℕ, ◌<◌}
use Rattle.ceiling_checked.specs.Paying.{IsSitePaid}
use Rattle.ceiling_checked.proofs.certificate.Certificate.pays_all.Given as goal

-- the levels so far pay
abbrev pub invariant-loop-number : goal.invariant-loop-number
invariant-loop-number l = (number : ℕ) → number < l.number → IsSitePaid l.marks l.self l.rows number

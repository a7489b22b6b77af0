use Rattle.std.proofs.Common.{ℕ, ◌<◌, length}
use Rattle.std.specs.Prelude.{Contains}
use Rattle.ceiling_rows.specs.Sites.{sites_in}
use Rattle.ceiling_rows.proofs.sites.Sites.in_order.Given as goal

-- each number is that of a site
abbrev pub invariant-loop-node : goal.invariant-loop-node
invariant-loop-node l = (number : ℕ) → Contains l.numbers.items number → number < length (sites_in l.self)

use Rattle.std.proofs.Common.{ℕ, ◌<◌, ◌⊎◌, length}
use Rattle.std.specs.Prelude.{Contains}
use Rattle.ceiling_rows.specs.Sites.{sites_in}
use Rattle.ceiling_rows.proofs.sites.Sites.add_numbers.Given as goal

-- each number was there before, or is that of a site
abbrev pub invariant-loop-angle : goal.invariant-loop-angle
invariant-loop-angle l = (number : ℕ) → Contains l.numbers.items number
    → Contains l.fn.numbers.items number ⊎ (number < length (sites_in l.self))

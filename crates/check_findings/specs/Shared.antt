-- Edges that share the mark of one before them, among what was found.
use Rattle.std.specs.Prelude.{ℕ, ◌==◌, ◌&&◌, if◌then◌else◌, not, Bool, true, false}
use Rattle.std.specs.Prelude.{Option, Some, None}
use Rattle.check_findings.specs.declared.within.Within.{Within}
use Rattle.check_findings.specs.declared.within.Within.TheVariants as within
use Rattle.check_findings.specs.Finding.{Finding, closes}

abbrev pub is_shared : Within → Bool
is_shared within.Shared = true
is_shared _ = false

-- whether a finding asks for a mark of its own
abbrev pub asks_for_mark : Finding → Bool
asks_for_mark (closes edge within) = not (is_shared within)
asks_for_mark _ = false

-- whether it asks to share one
abbrev pub asks_to_share : Finding → Bool
asks_to_share (closes edge within) = is_shared within
asks_to_share _ = false

-- the edge of a finding that shares a mark, and goes back to this location
abbrev pub shared_onto : ℕ → Finding → Option (ℕ × ℕ)
shared_onto head (closes edge within) =
    if is_shared within && edge.1 == head then Some edge else None
shared_onto head _ = None

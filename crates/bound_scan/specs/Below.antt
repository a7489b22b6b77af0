-- Which keys entries may have.
use Rattle.std.specs.Prelude.{ℕ, ◌<◌, List, Contains}
use Rattle.bound_scan.specs.declared.worst.Worst.{Worst}

-- the key of each entry is below this number
abbrev pub AreBelow : List (ℕ × Worst) → ℕ → Type 0
AreBelow pairs keys = (key : ℕ) (entry : Worst) → Contains pairs (key, entry) → key < keys

-- Which numbers are locations (IBM 650 Manual of Operation).
use Rattle.std.specs.Prelude.{ℕ, ◌<◌, ◌≤◌, Bool, ◌&&◌, ◌||◌, nat_lt, nat_le}

-- 0 to 1999, or 8000 to 8003
abbrev pub IsLocation : ℕ → Type 0
IsLocation n = (n < 8004) × (2000 ≤ n → 8000 ≤ n)

-- the same as a test
abbrev pub is_location : ℕ → Bool
is_location n = nat_lt n 2000 || (nat_le 8000 n && nat_lt n 8004)

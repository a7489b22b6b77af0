-- Numbers that are written with a fixed number of decimal digits.
use Rattle.std.specs.Prelude.{ℕ, zero, suc, ◌+◌, ◌/◌, ◌%◌, List, [], ◌∷◌, ◌++◌}

-- the last `count` decimal digits of n, in ASCII, the most significant one first
abbrev pub digits_of : ℕ → ℕ → List ℕ
digits_of zero n = []
digits_of (suc count) n = digits_of count (n / 10) ++ (48 + n % 10) ∷ []

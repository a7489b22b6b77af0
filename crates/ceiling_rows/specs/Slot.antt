-- Where instructions are found, as numbers below 2200: a drum location has its one angle; each of
-- 8000 to 8003 has a number for each angle at which it may be found.
use Rattle.std.specs.Prelude.{ℕ, ◌+◌, ◌-◌, ◌*◌, ◌/◌, nat_lt, if◌then◌else◌}

-- the number of a location and an angle
abbrev pub slot_of : ℕ → ℕ → ℕ
slot_of place angle = if nat_lt place 2000 then place else 2000 + (place - 8000) * 50 + angle

-- the location that a number stands for; its angle is the rest of its division by 50
abbrev pub place_of : ℕ → ℕ
place_of slot = if nat_lt slot 2000 then slot else 8000 + (slot - 2000) / 50

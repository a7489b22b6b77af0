-- The angles at which a word can be had (IBM 650 Manual of Operation, of the drum's words alone).
-- The wait for one is told by `first` of `Moment`.
use Rattle.std.specs.Prelude.{ℕ, ◌%◌, Bool, true, ◌==◌}
use Rattle.base_words.specs.declared.location.Kind.{Kind}
use Rattle.base_words.specs.declared.location.Kind.TheVariants.{Drum, Switches, Distributor, Lower}
use Rattle.base_words.specs.declared.location.Kind.TheVariants.{Upper}
use Rattle.base_words.specs.declared.parity.Parity.{Parity}
use Rattle.base_words.specs.declared.parity.Parity.TheVariants.{Any, Even, Odd}
use Rattle.base_words.specs.Kind.{kind_of}

-- the angle is this one
abbrev pub is_angle : ℕ → ℕ → Bool
is_angle wanted angle = angle == wanted

-- the angle has the parity
abbrev pub has_parity : Parity → ℕ → Bool
has_parity Any angle = true
has_parity Even angle = angle % 2 == 0
has_parity Odd angle = angle % 2 == 1

-- a word of this kind, at the location of this number, can be had at the angle (the lower half of
-- the accumulator is location 8002, the upper half 8003)
abbrev pub is_had : Kind → ℕ → ℕ → Bool
is_had Drum n angle = is_angle (n % 50) angle
is_had Switches n angle = true
is_had Distributor n angle = true
is_had Lower n angle = has_parity Even angle
is_had Upper n angle = has_parity Odd angle

-- the word at the location of this number can be had at the angle
abbrev pub is_available : ℕ → ℕ → Bool
is_available n angle = is_had (kind_of n) n angle

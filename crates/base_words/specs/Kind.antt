-- What stands at a location (IBM 650 Manual of Operation).
use Rattle.std.specs.Prelude.{ℕ, nat_lt, ◌==◌, if◌then◌else◌}
use Rattle.base_words.specs.declared.location.Kind.{Kind}
use Rattle.base_words.specs.declared.location.Kind.TheVariants.{Drum, Switches, Distributor, Lower}
use Rattle.base_words.specs.declared.location.Kind.TheVariants.{Upper}

-- what stands at the location of this number (a number that is no location has no meaning here)
abbrev pub kind_of : ℕ → Kind
kind_of n =
    if nat_lt n 2000 then Drum
    else (if n == 8000 then Switches
    else (if n == 8001 then Distributor else (if n == 8002 then Lower else Upper)))

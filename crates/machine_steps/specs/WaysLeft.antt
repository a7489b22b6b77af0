-- The ways that the code has, as the definitions have them.
use Rattle.std.specs.Prelude.{ℕ, List, ◌++◌, option_to_list}
use Rattle.machine_steps.specs.declared.ways.Way as code
use Rattle.machine_steps.specs.declared.ways.Way.TheVariants as way
use Rattle.machine_steps.specs.declared.ways.Ways.{Ways}
use Rattle.machine_steps.specs.Ways.{Way, early, to, late, in_order}

abbrev pub seen_way : code.Way → Way
seen_way way.Early = early
seen_way (way.To location) = to location.number
seen_way way.Late = late

-- the addresses that are left to go on at
abbrev pub addresses_left : Ways → List ℕ
addresses_left ways = option_to_list ways.branch ++ option_to_list ways.next

-- the ways that are left
abbrev pub ways_left : Ways → List Way
ways_left ways = in_order ways.stops_early (addresses_left ways) ways.stops_late

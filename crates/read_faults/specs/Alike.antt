-- Faults of one text to whose lines the same was done.
use Rattle.std.specs.Prelude.{ℕ, ◌-◌, Bool, List, nat_lt, find, count_by, if◌then◌else◌}
use Rattle.std.specs.Prelude.{Option, Some, None}
use Rattle.std.specs.Option.{option_eq, option_and_then}
use denote.Enum.Bare.{sameb}
use Rattle.read_faults.specs.contracts.slip.Slip.{the_type}
use Rattle.read_faults.specs.declared.placed_fault.PlacedFault.{PlacedFault}
use Rattle.read_faults.specs.declared.slip.Slip.{Slip}

-- this was done to the line of a fault (`sameb the_type` is the `==` of slips)
abbrev pub has_slip : {Fault : Type 0} → Slip → PlacedFault Fault → Bool
has_slip slip placed = option_eq (sameb the_type) placed.slip (Some slip)

-- how many more faults there are to whose lines this was done, where they are ten or more
abbrev pub more_alike : {Fault : Type 0} → List (PlacedFault Fault) → Option Slip → Option ℕ
more_alike faults None = None
more_alike faults (Some slip) =
    if nat_lt (count_by (has_slip slip) faults) 10 then None
    else Some (count_by (has_slip slip) faults - 1)

-- the line of the first of them
abbrev pub first_alike : {Fault : Type 0} → List (PlacedFault Fault) → Option Slip → Option ℕ
first_alike faults None = None
first_alike faults (Some slip) =
    option_and_then (λ first. first.line) (find (has_slip slip) faults)

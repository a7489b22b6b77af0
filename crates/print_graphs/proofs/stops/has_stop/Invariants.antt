use Rattle.std.proofs.Common.{◌≡◌}
use Rattle.std.specs.List.{list_any}
use Rattle.machine_steps.specs.WaysLeft.{ways_left}
use Rattle.print_graphs.specs.Graph.{stops}
use Rattle.print_graphs.proofs.stops.has_stop.Given as goal

-- none of the ways so far stops
abbrev pub invariant-loop-way : goal.invariant-loop-way
invariant-loop-way l = list_any stops (ways_left l.way-iterator) ≡ list_any stops (ways_left l.fn.ways)

use Rattle.std.proofs.Common.{◌≡◌}
use Rattle.flow_graph.specs.Executed.{with_new}
use Rattle.flow_graph.specs.Found.{places_of, targets_of}
use Rattle.machine_steps.specs.WaysLeft.{ways_left}
use Rattle.flow_graph.proofs.location_set.LocationSet.add_ways.Given as goal

-- what is there, and what the ways that are left will add, is what all of them add
abbrev pub invariant-loop-way : goal.invariant-loop-way
invariant-loop-way l =
    with_new (places_of l.self) (targets_of (ways_left l.way-iterator))
    ≡ with_new (places_of l.fn.self) (targets_of (ways_left l.fn.ways))

-- A hop as its line tells it.
use Rattle.machine_steps.specs.WaysLeft.{seen_way}
use Rattle.flow_walks.specs.Visited.{Visited}
use Rattle.print_hops.specs.declared.timed_hop.TimedHop.{TimedHop}

-- the hop that the line is of
abbrev pub seen_timed : TimedHop → Visited
seen_timed told = record {
  place = told.place.number;
  ins = told.instruction;
  way = seen_way told.way;
  begun = told.begun;
  ended = told.ended;
}

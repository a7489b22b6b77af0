use Rattle.std.proofs.Common.{flat_map, take}
use Rattle.print_lines.specs.Stands.{Passes}
use Rattle.print_lines.specs.FaultText.{next_location}
use Rattle.print_lines.proofs.print.refusal_line.put_locations.Given as goal

-- the locations so far were put
abbrev pub invariant-loop-location : goal.invariant-loop-location
invariant-loop-location g l =
    Passes (g.O.Output.device l.fn.writer) l.fn.sheet (g.O.Output.device l.writer) l.sheet
    (flat_map next_location (take l.location-index l.locations))

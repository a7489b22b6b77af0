-- The end of a hop, as it is kept.
use Rattle.std.specs.Prelude.{Some}
use Rattle.bound_scan.specs.declared.scan.steps.end.End.{End}
use Rattle.bound_scan.specs.declared.latest.Latest.{Latest}

-- its clock, and the key and the hop that it is of
abbrev pub latest_in : End → Latest
latest_in end = record { clock = end.clock; origin = Some end.origin }

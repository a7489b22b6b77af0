-- The executed locations, as they are found.
use Rattle.std.specs.Prelude.{ℕ, List, map, filter_map, flat_map}
use Rattle.base_words.specs.declared.instruction.Instruction.{Instruction}
use Rattle.base_notes.specs.Allowed.{Notes}
use Rattle.machine_steps.specs.Ways.{Way, ways}
use Rattle.flow_graph.specs.declared.location_set.LocationSet.{LocationSet}
use Rattle.flow_graph.specs.Executed.{target_of}

-- the numbers of the locations, in order
abbrev pub places_of : LocationSet → List ℕ
places_of executed = map (λ location. location.number) executed.locations.keys.items

-- where ways go on
abbrev pub targets_of : List Way → List ℕ
targets_of ways = filter_map target_of ways

-- where instructions go on, each in turn
abbrev pub targets_by : Notes → List Instruction → List ℕ
targets_by notes instructions = flat_map (λ ins. targets_of (ways notes ins)) instructions

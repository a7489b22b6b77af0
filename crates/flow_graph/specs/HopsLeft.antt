-- The hops that are left of a location's.
use Rattle.std.specs.Prelude.{List, [], ◌++◌, map, flat_map, Option, Some, None}
use Rattle.base_words.specs.declared.instruction.Instruction.{Instruction}
use Rattle.machine_steps.specs.Ways.{Way}
use Rattle.flow_graph.specs.declared.hops.Hops.{Hops}
use Rattle.flow_graph.specs.Hops.{Hop, hops_of}
use Rattle.flow_graph.specs.Instructions.{instructions_left}
use Rattle.machine_steps.specs.WaysLeft.{ways_left}

-- the hops of an instruction, if there is one, of which these ways are left
abbrev pub hops_by : Option Instruction → List Way → List Hop
hops_by None ways = []
hops_by (Some ins) ways = map (λ w. record { ins = ins; way = w }) ways

abbrev pub hops_here : Hops → List Hop
hops_here hops = hops_by hops.instruction (ways_left hops.ways)

-- the hops that are left
abbrev pub hops_left : Hops → List Hop
hops_left hops =
    hops_here hops ++ flat_map (hops_of hops.notes.now) (instructions_left hops.instructions)

-- The hops that a run takes.
use Rattle.std.specs.Prelude.{ℕ, List, map, Option, Some, None}
use Rattle.base_words.specs.declared.op.Op.{Op}
use Rattle.base_words.specs.Op.{op_of}
use Rattle.machine_steps.specs.Contents.{Contents}
use Rattle.machine_steps.specs.Ending.{ended_by}
use Rattle.machine_steps.specs.Run as run
use Rattle.machine_steps.specs.Run.{Stride}
use Rattle.machine_steps.specs.Step.{instruction_in}
use Rattle.machine_steps.specs.Timing.{units_of}
use Rattle.flow_graph.specs.Walk.{Taken}

-- the units of a step's operation, where the profile has it
abbrev pub units_with : Option Op → ℕ → Contents → ℕ
units_with None d c = 0
units_with (Some op) d c = units_of op d c

-- the hop that a stride takes
abbrev pub hop_of : Stride → Taken
hop_of stride = record {
  place = stride.origin.sought;
  ins = instruction_in stride.origin;
  way = ended_by stride.outcome;
  units = units_with (op_of (instruction_in stride.origin).op) (instruction_in stride.origin).d
      stride.origin.contents;
  wait = stride.wait;
  begun = stride.origin.time;
  ended = run.time_after stride.outcome;
}

-- those of a run, in order: of the empty run none
abbrev pub hops_taken : List Stride → List Taken
hops_taken strides = map hop_of strides

-- The latest clock at which a hop can end.
use Rattle.std.specs.Prelude.{ℕ, Option, Some, None}
use Rattle.base_words.specs.declared.instruction.Instruction.{Instruction}
use Rattle.base_words.specs.declared.op.Op.{Op}
use Rattle.base_words.specs.declared.op.Op.TheVariants.{Divide, DivideReset, Multiply, Shift, Read}
use Rattle.base_words.specs.declared.op.Op.TheVariants.{Punch}
use Rattle.base_words.specs.Op.{op_of}
use Rattle.base_notes.specs.declared.entry.Entry.{Entry}
use Rattle.machine_steps.specs.Effect.{places}
use Rattle.machine_steps.specs.Ways.{Way}
use Rattle.flow_graph.specs.Walk.{end_by}

-- the most units that an operation may have, whatever the data
abbrev pub most_units : Op → ℕ → ℕ
most_units Divide d = 90
most_units DivideReset d = 90
most_units Multiply d = 90
most_units (Shift s) d = places s d
most_units _ d = 0

-- the longest wait that an operation may have
abbrev pub most_wait : Op → Entry → ℕ
most_wait Read entry = entry.wait_max
most_wait Punch entry = entry.wait_max
most_wait _ entry = 0

-- the same of an instruction's operation, none where it has no operation
abbrev pub units_by : ℕ → Option Op → ℕ
units_by d None = 0
units_by d (Some op) = most_units op d

abbrev pub wait_by : (Op → Entry) → Option Op → ℕ
wait_by times None = 0
wait_by times (Some op) = most_wait op (times op)

-- the clock at which a hop of this operation ends at the latest; of none, the clock itself
abbrev pub longest_by : (Op → Entry) → ℕ → Instruction → Way → ℕ → Option Op → ℕ
longest_by times place ins way clock None = clock
longest_by times place ins way clock (Some op) =
    end_by way (times op) op ins.d place (most_units op ins.d) (most_wait op (times op)) clock

-- the latest clock at which a hop that begins its search at this clock can end
unfoldable pub longest : (Op → Entry) → ℕ → Instruction → Way → ℕ → ℕ
longest times place ins way clock = longest_by times place ins way clock (op_of ins.op)

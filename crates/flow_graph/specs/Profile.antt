-- By which ways an instruction may end.
use Rattle.std.specs.Prelude.{◌≡◌, true, Some, ◌⊎◌}
use Rattle.base_words.specs.declared.instruction.Instruction.{Instruction}
use Rattle.base_words.specs.declared.op.Op.{Op}
use Rattle.base_words.specs.Op.{op_of, operand_of, is_operand}
use Rattle.machine_steps.specs.Ways.{Way, early}

-- The instruction may end by the way: the profile has its operation, and where its D isn't what the
-- operation wants it stops before it acts.
abbrev pub MayEnd : Instruction → Way → Type 0
MayEnd ins way = (op : Op) × (op_of ins.op ≡ Some op)
    × ((way ≡ early) ⊎ (is_operand (operand_of op) ins.d ≡ true))

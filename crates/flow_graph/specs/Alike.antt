-- Instructions that are alike but for their data address.
use Rattle.std.specs.Prelude.{ℕ, Bool, true, false, Option, Some, None}
use Rattle.base_words.specs.declared.instruction.Instruction.{Instruction}
use Rattle.base_words.specs.declared.op.Op.{Op}
use Rattle.base_words.specs.declared.op.Op.TheVariants.{Branch, BranchOnDigit, Read}
use Rattle.base_words.specs.Instruction.{instruction}
use Rattle.base_notes.specs.Allowed.{Notes}

-- the instruction with this data address in place of its own
abbrev pub with_d : Instruction → ℕ → Instruction
with_d ins d = instruction ins.op d ins.i

-- whether an operation may go on at D: a branch may, and 70 where a load card may come
abbrev pub branches : Notes → Op → Bool
branches notes (Branch b) = true
branches notes (BranchOnDigit p) = true
branches notes Read = notes.load_cards
branches notes _ = false

abbrev pub branches_with : Notes → Option Op → Bool
branches_with notes None = false
branches_with notes (Some op) = branches notes op

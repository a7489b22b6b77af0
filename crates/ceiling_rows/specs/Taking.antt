-- Data addresses of a pattern whose instructions are looked at by their ways.
use Rattle.std.specs.Prelude.{◌≡◌, ℕ, ◌<◌, ◌≤◌}
use Rattle.base_words.specs.Instruction.{instruction}
use Rattle.base_notes.specs.Allowed.{Notes}
use Rattle.base_notes.specs.declared.notes.pattern.Pattern.{Pattern}
use Rattle.machine_steps.specs.Ways.{ways}
use Rattle.ceiling_rows.specs.Slowest.{AreOfOnePart}

-- The pattern's instructions with these data addresses have the same ways, and the addresses are of
-- one part.
pub record AreAlike (notes : Notes) (pattern : Pattern) (start end : ℕ) : Type 0 where
  pub ways : (d : ℕ) → start ≤ d → d < end → ways notes (instruction pattern.op d pattern.i)
      ≡ ways notes (instruction pattern.op start pattern.i)
  pub part : AreOfOnePart start end

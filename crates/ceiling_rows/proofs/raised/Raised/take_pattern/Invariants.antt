use Rattle.std.proofs.Common.{ℕ, suc, ◌-◌, ◌<◌, ◌≤◌}
use Rattle.std.specs.Prelude.{Contains}
use Rattle.base_words.specs.declared.instruction.Instruction.{Instruction}
use Rattle.base_words.specs.Instruction.{instruction}
use Rattle.base_notes.specs.Allowed.{matching}
use Rattle.ceiling_rows.specs.Raised.{GrowsTo, HasTaken, TakesNoMore}
use Rattle.ceiling_rows.proofs.raised.Raised.take_pattern.Given as goal

-- the instructions with a lower data address were looked at
abbrev pub invariant-loop-d : goal.invariant-loop-d
invariant-loop-d l = record {
  from : l.pattern.d_from ≤ l.d;
  taken : (d : ℕ) → l.pattern.d_from ≤ d → d < l.d → HasTaken l.from l.self (instruction l.pattern.op d l.pattern.i);
  grown : GrowsTo l.fn.self l.self;
  no_more : (most : ℕ) → l.fn.self.most ≤ most
      → ((ins : Instruction) → Contains (matching l.pattern) ins → TakesNoMore l.from most ins) → l.self.most ≤ most;
}

abbrev pub decreases-loop-d : goal.decreases-loop-d
decreases-loop-d l = suc l.pattern.d_to - l.d

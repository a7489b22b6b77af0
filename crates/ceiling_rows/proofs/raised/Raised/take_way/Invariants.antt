use Rattle.std.proofs.Common.{ℕ, ◌+◌, ◌<◌, ◌≤◌}
use Rattle.base_words.specs.Instruction.{instruction}
use Rattle.machine_steps.specs.WaysLeft.{seen_way}
use Rattle.ceiling_rows.specs.Raised.{latest, GrowsTo, IsRaised}
use Rattle.ceiling_rows.proofs.raised.Raised.take_way.Given as goal

-- the instructions with the data addresses so far were looked at
abbrev pub invariant-loop-d : goal.invariant-loop-d
invariant-loop-d l = record {
  taken : (d : ℕ) → l.fn.start ≤ d → d < l.d
      → IsRaised l.from l.self (instruction l.pattern.op d l.pattern.i) (seen_way l.fn.way);
  grown : GrowsTo l.fn.self l.self;
  no_more : (most : ℕ) → l.fn.self.most ≤ most
      → ((d : ℕ) → l.fn.start ≤ d → d < l.fn.end
      → latest l.from (instruction l.pattern.op d l.pattern.i) (seen_way l.fn.way) + 49 ≤ l.from.angle + most)
      → l.self.most ≤ most;
}

use Rattle.std.proofs.Common.{ℕ, ◌<◌, ◌≤◌, ◌⊎◌, Contains}
use Rattle.base_words.specs.Instruction.{instruction}
use Rattle.machine_steps.specs.Ways.{Way, ways}
use Rattle.machine_steps.specs.WaysLeft.{ways_left}
use Rattle.ceiling_rows.specs.Raised.{GrowsTo, IsRaised, TakesNoMore}
use Rattle.ceiling_rows.proofs.raised.Raised.take_alike.Given as goal

-- by each of the ways each of the instructions was looked at, or it is left
abbrev pub invariant-loop-way : goal.invariant-loop-way
invariant-loop-way l = record {
  within : (way : Way) → Contains (ways_left l.way-iterator) way
      → Contains (ways l.from.notes.now (instruction l.pattern.op l.fn.start l.pattern.i)) way;
  taken : (way : Way) → Contains (ways l.from.notes.now (instruction l.pattern.op l.fn.start l.pattern.i)) way
      → ((d : ℕ) → l.fn.start ≤ d → d < l.fn.end
      → IsRaised l.from l.self (instruction l.pattern.op d l.pattern.i) way) ⊎ Contains (ways_left l.way-iterator) way;
  grown : GrowsTo l.fn.self l.self;
  no_more : (most : ℕ) → l.fn.self.most ≤ most
      → ((d : ℕ) → l.fn.start ≤ d → d < l.fn.end
      → TakesNoMore l.from most (instruction l.pattern.op d l.pattern.i))
      → l.self.most ≤ most;
}

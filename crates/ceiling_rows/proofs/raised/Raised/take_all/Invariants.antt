use Rattle.std.proofs.Common.{◌≡◌, ℕ, ◌≤◌, ◌++◌, Contains}
use Rattle.std.specs.Prelude.{flat_map}
use Rattle.base_words.specs.declared.instruction.Instruction.{Instruction}
use Rattle.read_decks.specs.InDeck.{loads_in}
use Rattle.base_notes.specs.Allowed.{allowed, matching}
use Rattle.flow_graph.specs.Patterns.{patterns_left}
use Rattle.ceiling_rows.specs.Raised.{HasTaken, TakesNoMore}
use Rattle.ceiling_rows.proofs.raised.Raised.take_all.Given as goal

-- the instructions of the patterns so far were looked at, and the others are left
abbrev pub invariant-loop-pattern : goal.invariant-loop-pattern
invariant-loop-pattern l = record {
  split : flat_map matching (l.yielded ++ patterns_left l.pattern-iterator)
      ≡ allowed (loads_in l.deck) l.from.notes.now l.from.location.number;
  taken : (ins : Instruction) → Contains (flat_map matching l.yielded) ins → HasTaken l.from l.self ins;
  no_more : (most : ℕ) → l.fn.self.most ≤ most
      → ((ins : Instruction) → Contains (allowed (loads_in l.deck) l.from.notes.now l.from.location.number) ins
      → TakesNoMore l.from most ins) → l.self.most ≤ most;
}

use Rattle.std.specs.Prelude.{flat_map, Contains}
use Rattle.base_words.specs.declared.instruction.Instruction.{Instruction}
use Rattle.read_decks.specs.InDeck.{loads_in}
use Rattle.base_notes.specs.Allowed.{allowed, matching}
use Rattle.flow_graph.specs.Patterns.{patterns_left}
use Rattle.ceiling_rounds.proofs.setting.Setting.allows.Given as goal

-- what matches a pattern that is left is allowed
abbrev pub invariant-loop-pattern : goal.invariant-loop-pattern
invariant-loop-pattern l =
    (ins : Instruction) → Contains (flat_map matching (patterns_left l.pattern-iterator)) ins
    → Contains (allowed (loads_in l.self.deck.now) l.self.notes.now l.fn.location.number) ins

-- The instructions of patterns, from an index of the first one's on.
use Rattle.std.specs.Prelude.{ℕ, List, [], ◌∷◌, ◌++◌, drop, flat_map, option_to_list}
use Rattle.base_words.specs.declared.instruction.Instruction.{Instruction}
use Rattle.base_notes.specs.declared.notes.pattern.Pattern.{Pattern}
use Rattle.base_notes.specs.Allowed.{matching}
use Rattle.flow_graph.specs.declared.instructions.Instructions.{Instructions}

-- the instructions of patterns, from this index of the first one's on
abbrev pub listed_from : ℕ → List Pattern → List Instruction
listed_from place [] = []
listed_from place (pattern ∷ patterns) = drop place (matching pattern) ++ flat_map matching patterns

-- the instructions that are left
abbrev pub instructions_left : Instructions → List Instruction
instructions_left instructions = option_to_list instructions.loaded
    ++ listed_from instructions.place instructions.patterns.now

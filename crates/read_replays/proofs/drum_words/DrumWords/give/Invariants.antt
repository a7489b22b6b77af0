use Rattle.std.proofs.Common.{ℕ, List, ◌++◌, take}
use Rattle.base_words.specs.declared.word.Word.{Word}
use Rattle.read_replays.specs.InputsOfLines.{HoldWords}
use Rattle.read_replays.specs.InputsText.{placed}
use Rattle.read_replays.proofs.drum_words.DrumWords.give.Given as goal

-- the words so far have been given
abbrev pub invariant-loop-place : goal.invariant-loop-place
invariant-loop-place l = record {
  given : (given : List (ℕ × Word)) → HoldWords l.fn.self given
      → HoldWords l.self (given ++ placed l.first (take l.place l.words));
}

use Rattle.std.proofs.Common.{◌≢◌, ℕ, ◌<◌}
use Rattle.std.specs.Prelude.{slice_index_or}
use Rattle.base_words.specs.declared.location.Location.{Location}
use Rattle.base_words.specs.declared.word.Word.{Word}
use Rattle.machine_emulator.proofs.setup.is_given.Given as goal

-- none so far is for the location
abbrev pub invariant-loop-given : goal.invariant-loop-given
invariant-loop-given l =
    (k : ℕ) (d : Location × Word) → k < l.given-index → (slice_index_or l.words k d).0.number ≢ l.location.number

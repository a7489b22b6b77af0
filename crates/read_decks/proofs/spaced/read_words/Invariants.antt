use Rattle.std.proofs.Common.{◌≡◌, ◌*◌, take}
use Rattle.base_words.specs.Word.{spaced}
use Rattle.read_decks.proofs.spaced.read_words.Given as goal

-- the words so far are those that the prefix of the text spells
abbrev pub invariant-loop-place : goal.invariant-loop-place
invariant-loop-place l = record {
  spelled : take (12 * l.place) l.text ≡ spaced (take l.place l.words);
}

use Rattle.std.proofs.Common.{◌≡◌, vec_len}
use Rattle.base_words.specs.declared.word.Word.{Word}
use Rattle.read_decks.proofs.Puts.{ArePut}
use Rattle.read_decks.proofs.deck.loading.put_words.Given as goal

-- the words so far are put, and the other locations are as they were
abbrev pub invariant-loop-place : goal.invariant-loop-place
invariant-loop-place l = record {
  drum : vec_len l.image ≡ 2000;
  puts : ArePut (λ (word : Word). record { word = word; line = l.line }) l.fn.image.items l.image.items l.first l.place
      l.words;
}

use Rattle.std.proofs.Common.{◌≡◌, ◌<◌, length, Some, sym, ◌∙◌, arith, refl}
use Rattle.std.proofs.lemmas.Option.{slice_get_read, slice_get_within}
use Rattle.std.specs.Prelude.{slice_get}
use Rattle.base_words.specs.declared.word.Word.{Word}
use Rattle.read_decks.proofs.Puts.{put_more}
use Rattle.read_decks.proofs.deck.loading.put_words.Goals as goal

pub loop-place-preserved : goal.loop-place-preserved
loop-place-preserved c =
    let image = c.loop-place.image in
    let long : 2000 ≡ length image.items = sym c.loop-place.invariant.drum ∙ image.ok.0 in
    let this : slice_get c.args.words.now c.loop-place.place ≡ Some c.index-words-place.result =
    slice_get_read c.args.words.now (length c.args.words.now) c.loop-place.place c.index-words-place.result refl
    c.loop-place-test.true c.index-words-place.is in
    record {
      drum = c.loop-place.invariant.drum;
      puts =
          put_more (λ (word : Word). record { word = word; line = c.args.line }) c.args.image.now.items image.items
          c.args.first c.loop-place.place c.args.words.now c.index-words-place.result
          c.loop-place.invariant.puts (omega (arith, long)) this;
    }

pub returns-clause-put : goal.returns-clause-put
returns-clause-put c k word is_word =
    let within : k < length c.args.words.now = slice_get_within c.args.words.now k word is_word in
    c.loop-place.invariant.puts.put k word (omega arith) is_word

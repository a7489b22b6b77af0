use Rattle.std.proofs.Common.{◌≡◌, ℕ, ◌+◌, List, ◌++◌, ◌∷◌, [], take, ap, sym, ◌∙◌, subst, arith, append_assoc}
use Rattle.std.proofs.lemmas.List.{take_all}
use Rattle.base_words.specs.declared.word.Word.{Word}
use Rattle.read_replays.specs.InputsOfLines.{HoldWords}
use Rattle.read_replays.specs.InputsText.{placed}
use Rattle.read_replays.proofs.Marks.{placed_more}
use Rattle.read_replays.proofs.drum_words.DrumWords.give.Goals as goal

pub loop-place-preserved : goal.loop-place-preserved
loop-place-preserved c = record {
  given = λ given holds.
      let words = c.args.words.now in
      let place = c.loop-place.place in
      let word = c.index-words-place.result in
      let before = given ++ placed c.args.first (take place words) in
      let more : placed c.args.first (take (place + 1) words) ≡ placed c.args.first (take place words)
      ++ (c.args.first + place, word) ∷ [] =
      placed_more c.args.first place words word c.loop-place-test.true (sym c.index-words-place.is) in
      let all : before ++ (c.args.first + place, word) ∷ [] ≡ given ++ placed c.args.first (take (place + 1) words) =
      append_assoc given (placed c.args.first (take place words)) ((c.args.first + place, word) ∷ [])
      ∙ ap (λ (xs : List (ℕ × Word)). given ++ xs) (sym more) in
      subst (HoldWords c.push.new.self) all (c.in_ok-push.ensures before (c.loop-place.invariant.given given holds));
}

pub returns : goal.returns
returns c given holds =
    let words = c.args.words.now in
    let all : take c.loop-place.place words ≡ words = take_all c.loop-place.place words (omega arith) in
    subst (λ (ws : List Word). HoldWords c.loop-place.self (given ++ placed c.args.first ws)) all
    (c.loop-place.invariant.given given holds)

use Rattle.std.proofs.Common.{◌≡◌, ℕ, ◌+◌, ◌-◌, ◌*◌, ◌<◌, ◌∷◌, List, length, take, drop, ap, sym, ◌∙◌, arith}
use Rattle.base_words.specs.Word.{spelling}
use Rattle.read_decks.proofs.Cards.{spaced_at, words_more}
use Rattle.read_decks.proofs.spaced.read_words.Goals as goal

pub returns-in_default-clause-none : goal.returns-in_default-clause-none
returns-in_default-clause-none c is_false others count spelled =
    let place = c.loop-place.place in
    let within : place < length others = omega (arith, count) in
    let word = spaced_at others place within in
    let twelve : 12 * place + 12 - 12 * place ≡ 12 = omega arith in
    c.in_default.ensures.none word.0
    (ap (λ (k : ℕ). take k (drop (12 * place) c.args.text.now)) twelve
    ∙ ap (λ (xs : List ℕ). take 12 (drop (12 * place) xs)) spelled ∙ word.1)

pub loop-place-preserved : goal.loop-place-preserved
loop-place-preserved c =
    let text = c.args.text.now in
    let place = c.loop-place.place in
    let within : place < length c.loop-place.words = omega arith in
    let twelve : 12 * place + 12 - 12 * place ≡ 12 = omega arith in
    let here : take 12 (drop (12 * place) text) ≡ 32 ∷ spelling c.in-Some.word =
    ap (λ (k : ℕ). take k (drop (12 * place) text)) (sym twelve) ∙ c.in-Some.ensures.found in
    record {
      spelled =
          words_more text c.loop-place.words place c.in-Some.word within c.loop-place.invariant.spelled here;
    }

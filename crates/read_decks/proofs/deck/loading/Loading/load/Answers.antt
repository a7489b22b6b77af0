-- Of Loading::load: a card that goes past the drum, or one of whose locations has a word already,
-- has that fault. Once the words of any other stand in the image, what is held is what the lines so
-- far and this card say.
use Rattle.std.proofs.Common.{◌≡◌, ℕ, ◌+◌, ◌≤◌, ◌<◌, ◌⊎◌, List, length, take, slice_get, refl, ap, arith, subst, Option, Some, None}
use Rattle.base_words.specs.declared.word.Word.{Word}
use Rattle.read_decks.specs.DeckText as text
use Rattle.read_decks.specs.FirstLoaded.{IsFirstLoaded}
use Rattle.read_decks.specs.declared.deck.Given.{Given}
use Rattle.read_decks.proofs.LineFaults.{past_drum, twice, card_next}
use Rattle.read_decks.proofs.deck.loading.Loading.load.Goals as goal

pub returns-then-card-words : goal.returns-then-card-words
returns-then-card-words c bytes is_line before counted holds =
    past_drum c.args.self.now before bytes c.args.line
    (text.card c.args.card.now.address (take c.args.card.now.len c.args.card.now.words)) c.alone.ensures counted is_line
    (omega (arith, c.if-card-words.true, ap length c.words-words.ensures)) holds

pub returns-in-Some : goal.returns-in-Some
returns-in-Some c bytes is_line before counted holds =
    let first = c.args.card.now.address in
    let words : List Word = take c.args.card.now.len c.args.card.now.words in
    let count : length c.words-words.result.now ≡ length words = ap length c.words-words.ensures in
    let taken =
    subst (λ (image : List (Option Given)). IsFirstLoaded image first (length words) c.in-Some.location.number)
    c.deref.ensures.value
    (subst (λ (n : ℕ). IsFirstLoaded c.deref.result.now first n c.in-Some.location.number) count
    c.in-Some.ensures.found) in
    let here =
    subst (λ (image : List (Option Given)). slice_get image c.in-Some.location.number ≡ Some (Some c.in-Some.given))
    c.deref.ensures.value c.in-Some.ensures.given in
    twice c.args.self.now before bytes c.args.line first words c.in-Some.location c.in-Some.given counted is_line
    (omega (arith, c.if-card-words.false, count)) taken here holds

pub returns : goal.returns
returns c bytes is_line before counted holds =
    let first = c.args.card.now.address in
    let words : List Word = take c.args.card.now.len c.args.card.now.words in
    let same : c.words-words.result.now ≡ words = c.words-words.ensures in
    let count : length c.words-words.result.now ≡ length words = ap length same in
    let free =
    subst (λ (image : List (Option Given)). (n : ℕ) → first ≤ n → n < first + length c.words-words.result.now
    → slice_get image n ≡ Some None) c.deref.ensures.value c.in_default.ensures.none in
    card_next c.args.self.now _ before bytes c.args.line first words refl c.in_ok-push.ensures.items counted is_line
    (omega (arith, c.if-card-words.false, count)) (λ n low high. free n low (omega (arith, high, count)))
    (subst (λ (ws : List Word). (k : ℕ) (word : Word) → slice_get ws k ≡ Some word
    → slice_get c.put_words.new.image.items (first + k) ≡ Some (Some (record { word = word; line = c.args.line }))) same
    c.put_words.ensures.put)
    (subst (λ (ws : List Word). (n : ℕ) → (n < first) ⊎ (first + length ws ≤ n)
    → slice_get c.put_words.new.image.items n ≡ slice_get c.args.self.now.image.items n) same
    c.put_words.ensures.others) holds

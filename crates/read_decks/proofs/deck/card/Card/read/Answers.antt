use Rattle.std.proofs.Common.{◌≡◌, ℕ, ◌-◌, ◌≤◌, length, take, drop, refl, ap, sym, ◌∙◌, arith}
use Rattle.std.proofs.lemmas.List.{length-take-le, length-drop, take_all}
use Rattle.base_words.specs.Numeral.{digits_of}
use Rattle.read_decks.proofs.Cards.{card_length, address_of_card}
use Rattle.read_decks.proofs.deck.card.Card.read.Goals as goal

pub returns-in_default-clause-none : goal.returns-in_default-clause-none
returns-in_default-clause-none c n words is_card =
    c.in_default.ensures.none (length words) is_card.1 is_card.2 (card_length c.args.line.now n words is_card)

pub returns-in_default-read_digits-clause-none : goal.returns-in_default-read_digits-clause-none
returns-in_default-read_digits-clause-none c n words is_card =
    let long = card_length c.args.line.now n words is_card in
    let four : length (take 4 c.args.line.now) ≡ 4 = length-take-le 4 c.args.line.now (omega (arith, long)) in
    c.in_default-read_digits.ensures.none n
    (address_of_card c.args.line.now n words is_card ∙ ap (λ (k : ℕ). digits_of k n) (sym four))

pub returns-then-not-read_words-clause-none : goal.returns-then-not-read_words-clause-none
returns-then-not-read_words-clause-none c n words is_card =
    let line = c.args.line.now in
    let long = card_length line n words is_card in
    let enough : length (drop 4 line) ≤ length line - 4 = omega (arith, length-drop 4 line) in
    let count : length words ≡ c.in-Some.len = omega (arith, long, c.in-Some.ensures.found) in
    let seven : c.in-Some.len ≤ 7 = omega (arith, c.in-Some.ensures.found) in
    c.if-not-read_words.ensures.none refl words (count ∙ sym (length-take-le c.in-Some.len _ seven))
    (take_all (length line - 4) (drop 4 line) enough ∙ ap (drop 4) is_card.3)

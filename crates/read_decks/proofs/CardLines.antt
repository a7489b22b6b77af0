-- The lines of a deck's cards: they ascend, from 1 to 4000, and the line of each given word is among them.
use Rattle.std.proofs.Common.{◌≡◌, ℕ, zero, suc, ◌+◌, ◌<◌, ◌≤◌, Bool, true, false, List, [], ◌∷◌, length, get_or, refl}
use Rattle.std.proofs.Common.{ap, sym, ◌∙◌, arith, inl, inr, Option, Some, None}
use Rattle.std.proofs.Math.Logic.{∥∥₁_elim}
use Rattle.std.proofs.lemmas.Bool.{cases_lt, eq-eqb}
use Rattle.std.proofs.lemmas.Map.Views.{Contains-from_any}
use Rattle.std.proofs.lemmas.Option.{slice_get_past}
use Rattle.std.proofs.Props.{props}
use Rattle.std.specs.Coded.{×_prop, le_prop}
use Rattle.std.specs.List.{Contains, list_any}
use Rattle.std.specs.Option.{option_map}
use Rattle.std.specs.Prelude.{slice_get, ◌==◌, ◌||◌, if◌then◌else◌}
use borrow.Author.Tests.{eqb-true}
use Rattle.read_decks.specs.declared.deck.Given as held
use Rattle.read_decks.specs.declared.deck.Deck.{Deck}
use Rattle.base_words.specs.declared.location.Location.{Location}
use Rattle.base_words.specs.declared.word.Word.{Word}
use Rattle.read_decks.specs.DeckText.{Line, comment, start, card, Given, given_by_card, given_from, given_at, cards_from}
use Rattle.read_decks.specs.ImageOfLines.{seen, AreOfLines}
use Rattle.read_decks.specs.InDeck.{found_in, card_in, cards_in}
use Rattle.read_decks.proofs.InDeckLaws.{or_else, given_at-append}

-- each is one of the lines' numbers
within : (number : ℕ) (lines : List Line) (k d : ℕ) → k < length (cards_from number lines)
    → (number ≤ get_or (cards_from number lines) k d) × (get_or (cards_from number lines) k d < number + length lines)
within number [] k d some = absurd (omega (arith, some))
within number (comment ∷ lines) k d some =
    let rest = within (number + 1) lines k d some in (omega (arith, rest.0), omega (arith, rest.1))
within number (start n ∷ lines) k d some =
    let rest = within (number + 1) lines k d some in (omega (arith, rest.0), omega (arith, rest.1))
within number (card n words ∷ lines) zero d some = (omega arith, omega arith)
within number (card n words ∷ lines) (suc k) d some =
    let rest = within (number + 1) lines k d (omega (arith, some)) in (omega (arith, rest.0), omega (arith, rest.1))

-- each is below the next
rising : (number : ℕ) (lines : List Line) (k : ℕ) → suc k < length (cards_from number lines)
    → get_or (cards_from number lines) k 0 < get_or (cards_from number lines) (suc k) 0
rising number [] k some = absurd (omega (arith, some))
rising number (comment ∷ lines) k some = rising (number + 1) lines k some
rising number (start n ∷ lines) k some = rising (number + 1) lines k some
rising number (card n words ∷ lines) zero some = omega (arith, (within (number + 1) lines 0 0 (omega (arith, some))).0)
rising number (card n words ∷ lines) (suc k) some = rising (number + 1) lines k (omega (arith, some))

-- what a card gives has the card's line
of_card : (number first : ℕ) (words : List Word) (n : ℕ) (one : Given)
    → given_at (given_by_card number first words) n ≡ Some one → one.line ≡ number
of_card number first [] n one is_given = cc
of_card number first (word ∷ words) n one is_given = go (first == n) (of_card number (first + 1) words n one) is_given
  where
    go : (here : Bool) → (given_at (given_by_card number (first + 1) words) n ≡ Some one → one.line ≡ number)
        → (if here then Some (record { location = first; word = word; line = number })
        else given_at (given_by_card number (first + 1) words) n) ≡ Some one → one.line ≡ number
    go true behind h = cc
    go false behind h = behind h

-- the line of what lines give is among those of the cards
listed : (number : ℕ) (lines : List Line) (n : ℕ) (one : Given) → given_at (given_from number lines) n ≡ Some one
    → list_any (λ line. one.line == line) (cards_from number lines) ≡ true
listed number [] n one is_given = cc
listed number (comment ∷ lines) n one is_given = listed (number + 1) lines n one is_given
listed number (start m ∷ lines) n one is_given = listed (number + 1) lines n one is_given
listed number (card m words ∷ lines) n one is_given =
    go (given_at (given_by_card number m words) n) refl (listed (number + 1) lines n one)
    (sym (given_at-append (given_by_card number m words) (given_from (number + 1) lines) n) ∙ is_given)
  where
    behind : (here : Bool) → list_any (λ line. one.line == line) (cards_from (number + 1) lines) ≡ true
        → (here || list_any (λ line. one.line == line) (cards_from (number + 1) lines)) ≡ true
    behind true h = refl
    behind false h = h

    go : (found : Option Given) → given_at (given_by_card number m words) n ≡ found
        → (given_at (given_from (number + 1) lines) n ≡ Some one
        → list_any (λ line. one.line == line) (cards_from (number + 1) lines) ≡ true)
        → or_else found (given_at (given_from (number + 1) lines) n) ≡ Some one
        → list_any (λ line. one.line == line) (cards_from number (card m words ∷ lines)) ≡ true
    go None here rest h = behind (one.line == number) (rest h)
    go (Some other) here rest h =
        let same : other ≡ one = cc in
        let at : one.line ≡ number = of_card number m words n one (here ∙ h) in
        rw (eq-eqb one.line number at) refl

-- what an image holds, its lines give
given_of_seen : (found : Option Given) (line : ℕ) → option_map (λ (one : held.Given). one.line) (seen found) ≡ Some line
    → (one : Given) × (found ≡ Some one) × (one.line ≡ line)
given_of_seen None line h = cc
given_of_seen (Some one) line h = (one, refl, cc)

line_among : (image : List (Option held.Given)) (cards : List ℕ) (begun : Location) (n line : ℕ) → n < 2000
    → option_map (λ (one : held.Given). one.line) (found_in (slice_get image n)) ≡ Some line
    → AreOfLines image cards begun → list_any (λ other. line == other) cards ≡ true
line_among image cards begun n line below is_line of =
    let found : option_map (λ (one : held.Given). one.line) (seen (given_at (given_from 1 of.lines) n)) ≡ Some line =
    sym (ap (λ (at : Option (Option held.Given)). option_map (λ (one : held.Given). one.line) (found_in at))
    (of.holds.words n below)) ∙ is_line in
    let given = given_of_seen (given_at (given_from 1 of.lines) n) line found in
    ap (list_any (λ other. line == other)) of.holds.numbers
    ∙ ap (λ (l : ℕ). list_any (λ other. l == other) (cards_from 1 of.lines)) (sym given.2)
    ∙ listed 1 of.lines n given.0 given.1

-- each is from 1 to 4000
abbrev pub AreNumbered : List ℕ → Type 0
AreNumbered cards = (k d : ℕ) → k < length cards → (1 ≤ get_or cards k d) × (get_or cards k d ≤ 4000)

-- each is below the next
abbrev pub DoRise : List ℕ → Type 0
DoRise cards = (k : ℕ) → k + 1 < length cards → get_or cards k 0 < get_or cards (k + 1) 0

pub cards_within : (image : List (Option held.Given)) (cards : List ℕ) (begun : Location)
    → ∥ AreOfLines image cards begun ∥₁ → AreNumbered cards
cards_within image cards begun of_lines k d some = ∥∥₁_elim of_lines (×_prop le_prop le_prop) (λ of.
    let here = within 1 of.lines k d (omega (arith, some, ap length of.holds.numbers)) in
    let same : get_or cards k d ≡ get_or (cards_from 1 of.lines) k d =
    ap (λ (xs : List ℕ). get_or xs k d) of.holds.numbers in
    (omega (arith, here.0, same), omega (arith, here.1, same, of.few)))

pub cards_rise : (image : List (Option held.Given)) (cards : List ℕ) (begun : Location)
    → ∥ AreOfLines image cards begun ∥₁ → DoRise cards
cards_rise image cards begun of_lines k some = ∥∥₁_elim of_lines le_prop (λ of.
    let here = rising 1 of.lines k (omega (arith, some, ap length of.holds.numbers)) in
    let same : get_or cards k 0 ≡ get_or (cards_from 1 of.lines) k 0 =
    ap (λ (xs : List ℕ). get_or xs k 0) of.holds.numbers in
    let one_more : k + 1 ≡ suc k = omega arith in
    let next : get_or cards (k + 1) 0 ≡ get_or (cards_from 1 of.lines) (suc k) 0 =
    ap (λ (n : ℕ). get_or cards n 0) one_more ∙ ap (λ (xs : List ℕ). get_or xs (suc k) 0) of.holds.numbers in
    omega (arith, here, same, next))

-- there are no more cards than lines
few_cards : (number : ℕ) (lines : List Line) → length (cards_from number lines) ≤ length lines
few_cards number [] = omega arith
few_cards number (comment ∷ lines) = omega (arith, few_cards (number + 1) lines)
few_cards number (start n ∷ lines) = omega (arith, few_cards (number + 1) lines)
few_cards number (card n words ∷ lines) = omega (arith, few_cards (number + 1) lines)

pub cards_few : (image : List (Option held.Given)) (cards : List ℕ) (begun : Location)
    → ∥ AreOfLines image cards begun ∥₁ → length cards ≤ 4000
cards_few image cards begun of_lines =
    ∥∥₁_elim of_lines le_prop (λ of. omega (arith, ap length of.holds.numbers, few_cards 1 of.lines, of.few))

pub card_among : (image : List (Option held.Given)) (cards : List ℕ) (begun : Location) → length image ≡ 2000
    → ∥ AreOfLines image cards begun ∥₁ → (n line : ℕ)
    → option_map (λ (one : held.Given). one.line) (found_in (slice_get image n)) ≡ Some line → Contains cards line
card_among image cards begun whole of_lines n line is_line = elim (cases_lt n 2000) [
  | inl below ↦ Contains-from_any (λ x y same. eqb-true x y same) line cards
      (∥∥₁_elim of_lines (hlevel props) (line_among image cards begun n line below is_line))
  | inr past ↦ absurd (off (slice_get_past image n (omega (arith, past, whole))))
]
  where
    off : slice_get image n ≡ None → ⊥
    off past =
        let lost : option_map (λ (one : held.Given). one.line) None ≡ Some line =
        sym (ap (λ (at : Option (Option held.Given)). option_map (λ (one : held.Given). one.line) (found_in at)) past)
        ∙ is_line in cc

-- the same of a deck
pub deck_cards_rise : (deck : Deck) → DoRise (cards_in deck)
deck_cards_rise deck = cards_rise deck.image.items deck.cards.items deck.start deck.of_lines

pub deck_card_among : (deck : Deck) (location line : ℕ) → card_in deck location ≡ Some line
    → Contains (cards_in deck) line
deck_card_among deck location line is_line =
    card_among deck.image.items deck.cards.items deck.start (sym deck.image.ok.0 ∙ deck.whole) deck.of_lines location
    line is_line

-- How long a report is at most.
use Rattle.std.proofs.Common.{◌≡◌, ℕ, ◌+◌, ◌^◌, ◌<◌, ◌≤◌, Bool, List, ◌++◌, length, flat_map, arith, length-append}
use Rattle.std.proofs.lemmas.Fmt.{length-decimal-le}
use Rattle.std.proofs.lemmas.List.Concat.{length-flat_map}
use Rattle.std.proofs.lemmas.List.Sums.{sum_by-le}
use Rattle.std.specs.Prelude.{codes, decimal, slice_index_or}
use Rattle.base_words.specs.Numeral.{digits_of}
use Rattle.base_words.proofs.Numerals.{length-digits_of}
use Rattle.read_decks.specs.declared.deck.Deck.{Deck}
use Rattle.read_decks.specs.InDeck.{cards_in}
use Rattle.read_decks.proofs.CardLines.{cards_few}
use Rattle.base_notes.specs.declared.notes.mark.Mark.{Mark}
use Rattle.base_notes.specs.Allowed.{Notes}
use Rattle.flow_walks.specs.Visited.{Visited}
use Rattle.print_lines.specs.NameText.{name_text}
use Rattle.print_walks.specs.Report.{card_line, is_of_card, is_of_none, mark_line, other_line, bound_line, report_text}
use Rattle.print_walks.specs.Report.{spent, time_in, used_after, visits_at}
use Rattle.print_walks.specs.TalliesOf.{told_of_mark}
use Rattle.print_walks.proofs.Tallying.{count_part, time_part}

-- a number has 20 digits at most
number_short : (n : ℕ) → n < 2 ^ 64 → length (decimal n) ≤ 20
number_short n small = length-decimal-le 20 n (omega arith) (omega (arith, small)) small

-- how long texts are one behind the other
five : (a b c d e : List ℕ) → length (a ++ b ++ c ++ d ++ e) ≡ length a + length b + length c + length d + length e
five a b c d e = simp length-append

ten : (a b c d e f g h i j : List ℕ)
    → length (a ++ b ++ c ++ d ++ e ++ f ++ g ++ h ++ i ++ j)
    ≡ length a + length b + length c + length d + length e + length f + length g + length h + length i + length j
ten a b c d e f g h i j = simp length-append

-- the line of a mark
pub mark_short : (mark : Mark) (passed : ℕ) → passed < 2 ^ 64 → length (name_text mark.name) ≤ 26
    → length (told_of_mark mark passed) ≤ 120
mark_short mark passed few name =
    omega (
      arith,
      ten (codes "mark ") (digits_of 4 mark.from.number) (codes " ") (digits_of 4 mark.onto.number) (codes " passed ")
          (decimal passed) (codes " of ") (decimal mark.most) (name_text mark.name) (codes "\n"),
      length-digits_of 4 mark.from.number,
      length-digits_of 4 mark.onto.number,
      number_short passed few,
      number_short mark.most (omega (arith, mark.four_digits)),
      name,
    )

-- what hops take, at locations of one kind
spent_short : (here : ℕ → Bool) (walk : List Visited) → length walk < 2 ^ 64 → time_in walk < 2 ^ 64
    → length (spent (visits_at here walk)) ≤ 60
spent_short here walk few short =
    let visits = visits_at here walk in
    omega (
      arith,
      five (codes " visits ") (decimal (length visits)) (codes " time ") (decimal (time_in visits)) (codes "\n"),
      number_short (length visits) (omega (arith, count_part here walk, few)),
      number_short (time_in visits) (omega (arith, time_part here walk, short)),
    )

-- the line of a card
card_short : (deck : Deck) (walk : List Visited) (line : ℕ) → length walk < 2 ^ 64 → time_in walk < 2 ^ 64
    → length (card_line deck walk line) ≤ 69
card_short deck walk line few short =
    let last = spent (visits_at (is_of_card deck line) walk) in
    omega (
      arith,
      length-append (codes "card " ++ digits_of 4 line) last,
      length-append (codes "card ") (digits_of 4 line),
      length-digits_of 4 line,
      spent_short (is_of_card deck line) walk few short,
    )

-- those of 4000 cards
cards_short : (deck : Deck) (walk : List Visited) → length walk < 2 ^ 64 → time_in walk < 2 ^ 64
    → length (flat_map (card_line deck walk) (cards_in deck)) ≤ 276000
cards_short deck walk few short =
    omega (
      arith,
      length-flat_map (card_line deck walk) (cards_in deck),
      sum_by-le (λ (line : ℕ). length (card_line deck walk line)) 69 (cards_in deck)
          (λ k d within. card_short deck walk (slice_index_or (cards_in deck) k d) few short),
      cards_few deck.image.items deck.cards.items deck.start deck.of_lines,
    )

-- the whole report
pub report_short : (deck : Deck) (notes : Notes) (walk : List Visited) → length walk < 2 ^ 64 → time_in walk < 2 ^ 64
    → used_after 0 walk < 2 ^ 64 → length (flat_map (mark_line walk) notes.marks) ≤ 7680
    → length (report_text deck notes walk) < 2 ^ 64
report_short deck notes walk few short used marks =
    let first = flat_map (card_line deck walk) (cards_in deck) in
    let other = other_line deck walk in
    let third = flat_map (mark_line walk) notes.marks in
    omega (
      arith,
      length-append (first ++ other ++ third) (bound_line walk),
      length-append (first ++ other) third,
      length-append first other,
      cards_short deck walk few short,
      length-append (codes "other") (spent (visits_at (is_of_none deck) walk)),
      spent_short (is_of_none deck) walk few short,
      marks,
      length-append (codes "bound " ++ decimal (used_after 0 walk)) (codes "\n"),
      length-append (codes "bound ") (decimal (used_after 0 walk)),
      number_short (used_after 0 walk) used,
    )

-- Of put_cards: the line of each card says what the tally at its number has.
use Rattle.std.proofs.Common.{◌≡◌, ℕ, ◌≤◌, List, length, get_or, ap, ◌∙◌, arith}
use Rattle.std.proofs.lemmas.List.{get_or_default}
use Rattle.std.proofs.lemmas.Option.{get_or_from_slice_get}
use Rattle.read_decks.specs.declared.deck.Deck.{Deck}
use Rattle.read_decks.specs.InDeck.{cards_in}
use Rattle.flow_walks.specs.Visited.{Visited}
use Rattle.print_lines.proofs.Passing.{passes_as, passes_more}
use Rattle.print_walks.specs.declared.reporting.tally.Tally.{Tally}
use Rattle.print_walks.specs.Report.{card_line}
use Rattle.print_walks.specs.TalliesOf.{AreByLine, told_of_card}
use Rattle.print_walks.proofs.reporting.lines.put_cards.Goals as goal

-- what stands past the last tally
abbrev past : Tally
past = record { visits = 0; time = 0 }

-- the line of a card is what its tally says
is_line : (deck : Deck) (walk : List Visited) (tallies : List Tally) (line : ℕ) → AreByLine deck walk tallies
    → line ≤ 4000
    → told_of_card line (get_or tallies line past) ≡ card_line deck walk line
is_line deck walk tallies line by_line within =
    ap (told_of_card line) (get_or_from_slice_get tallies line _ past (by_line line within))

pub loop-line-preserved : goal.loop-line-preserved
loop-line-preserved g c walk by_line =
    let deck = c.args.deck.now in
    let index = c.loop-line.line-index in
    let cards = c.cards-line-items.result.now in
    let held : cards ≡ cards_in deck = c.cards-line-items.ensures.held in
    let line = get_or cards index 0 in
    passes_more (card_line deck walk) (cards_in deck) index line (omega (arith, c.loop-line-test.true, ap length held))
    (get_or_default cards index 0 line c.loop-line-test.true ∙ ap (λ (lines : List ℕ). get_or lines index line) held)
    (c.loop-line.invariant walk by_line)
    (passes_as
    (is_line deck walk c.args.tallies.now line by_line
    (c.cards-line-items.ensures.numbered index 0 c.loop-line-test.true).1)
    c.put_card.ensures)

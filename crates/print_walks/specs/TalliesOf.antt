-- What the tallies of a walk are, as the code has them, and the lines that they make.
use Rattle.std.specs.Prelude.{◌≡◌, ℕ, ◌≤◌, List, ◌++◌, codes, decimal, length, slice_get}
use Rattle.std.specs.Prelude.{slice_index, Some}
use Rattle.read_decks.specs.declared.deck.Deck.{Deck}
use Rattle.base_words.specs.Numeral.{digits_of}
use Rattle.base_notes.specs.declared.notes.mark.Mark.{Mark}
use Rattle.flow_walks.specs.Visited.{Visited, passes_in}
use Rattle.print_lines.specs.NameText.{name_text}
use Rattle.print_walks.specs.declared.reporting.tally.Tally.{Tally}
use Rattle.print_walks.specs.declared.reporting.tallies.Tallies.{Tallies}
use Rattle.print_walks.specs.Report.{is_of_card, is_of_none, time_in, visits_at}

-- the tally of hops
abbrev pub tally_of : List Visited → Tally
tally_of visits = record { visits = length visits; time = time_in visits }

-- each is the tally of the walk's hops at the locations of the card on its line
abbrev pub AreByLine : Deck → List Visited → List Tally → Type 0
AreByLine deck walk tallies = (line : ℕ) → line ≤ 4000
    → slice_get tallies line ≡ Some (tally_of (visits_at (is_of_card deck line) walk))

-- each mark's number is how often the walk passes it
abbrev pub ArePasses : List Mark → List Visited → List ℕ → Type 0
ArePasses marks walk passed = (k : ℕ) (mark : Mark) → slice_get marks k ≡ Some mark
    → slice_index passed k ≡ passes_in mark walk

pub record AreTallies (deck : Deck) (marks : List Mark) (walk : List Visited) (tallies : Tallies) :
    Type 0 where
  pub by_line : AreByLine deck walk tallies.cards
  pub elsewhere : tallies.other ≡ tally_of (visits_at (is_of_none deck) walk)
  pub passes : ArePasses marks walk tallies.passed

-- what a tally says
abbrev pub told_of : Tally → List ℕ
told_of tally =
    codes " visits " ++ decimal tally.visits ++ codes " time " ++ decimal tally.time ++ codes "\n"

-- the line of a card, of the other locations, and of a mark that is passed so often
abbrev pub told_of_card : ℕ → Tally → List ℕ
told_of_card line tally = codes "card " ++ digits_of 4 line ++ told_of tally

abbrev pub told_of_others : Tally → List ℕ
told_of_others tally = codes "other" ++ told_of tally

abbrev pub told_of_mark : Mark → ℕ → List ℕ
told_of_mark mark passes =
    codes "mark " ++ digits_of 4 mark.from.number ++ codes " " ++ digits_of 4 mark.onto.number
    ++ codes " passed " ++ decimal passes ++ codes " of " ++ decimal mark.most
    ++ name_text mark.name ++ codes "\n"

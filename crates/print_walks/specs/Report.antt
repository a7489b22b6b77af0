-- The report of a walk by card: how often the walk visits each card's locations and how long it
-- stays there, how often it passes each mark, and its time.
use Rattle.std.specs.Prelude.{ℕ, ◌-◌, ◌==◌, Bool, false, true, List, [], ◌∷◌, ◌++◌, codes, decimal}
use Rattle.std.specs.Prelude.{filter, flat_map, length, sum_by, Some, None}
use Rattle.read_decks.specs.declared.deck.Deck.{Deck}
use Rattle.read_decks.specs.InDeck.{card_in, cards_in}
use Rattle.base_words.specs.Numeral.{digits_of}
use Rattle.base_notes.specs.declared.notes.mark.Mark.{Mark}
use Rattle.base_notes.specs.Allowed.{Notes}
use Rattle.flow_walks.specs.Visited.{Visited, passes_in}
use Rattle.print_lines.specs.BoundText.{bound_text}
use Rattle.print_lines.specs.NameText.{name_text}

-- the card on this line gives the location its word
abbrev pub is_of_card : Deck → ℕ → ℕ → Bool
is_of_card deck line place = elim (card_in deck place) [ Some giver ↦ giver == line | None ↦ false ]

-- no card gives the location a word
abbrev pub is_of_none : Deck → ℕ → Bool
is_of_none deck place = elim (card_in deck place) [ Some giver ↦ false | None ↦ true ]

-- the hops of a walk that begin at such locations
abbrev pub visits_at : (ℕ → Bool) → List Visited → List Visited
visits_at here walk = filter (λ visit. here visit.place) walk

-- the word times that hops take
abbrev pub time_in : List Visited → ℕ
time_in visits = sum_by (λ visit. visit.ended - visit.begun) visits

-- how many hops there are, and the word times that they take
abbrev pub spent : List Visited → List ℕ
spent visits =
    codes " visits " ++ decimal (length visits)
    ++ codes " time " ++ decimal (time_in visits) ++ codes "\n"

-- the line of the card on a line of the deck
abbrev pub card_line : Deck → List Visited → ℕ → List ℕ
card_line deck walk line =
    codes "card " ++ digits_of 4 line ++ spent (visits_at (is_of_card deck line) walk)

-- the line of all locations that no card gives a word
abbrev pub other_line : Deck → List Visited → List ℕ
other_line deck walk = codes "other" ++ spent (visits_at (is_of_none deck) walk)

-- the line of a mark, with its name at the end where it has one
abbrev pub mark_line : List Visited → Mark → List ℕ
mark_line walk mark =
    codes "mark " ++ digits_of 4 mark.from.number ++ codes " " ++ digits_of 4 mark.onto.number
    ++ codes " passed " ++ decimal (passes_in mark walk)
    ++ codes " of " ++ decimal mark.most ++ name_text mark.name ++ codes "\n"

-- the word times used at the end of hops that begin with `used` word times used
abbrev pub used_after : ℕ → List Visited → ℕ
used_after used [] = used
used_after used (visit ∷ visits) = used_after visit.ended visits

-- the line of the walk's time
abbrev pub bound_line : List Visited → List ℕ
bound_line walk = bound_text (used_after 0 walk)

-- The report: a line for each card of the deck and one for all other locations, one for each mark
-- of the notes, and the time.
abbrev pub report_text : Deck → Notes → List Visited → List ℕ
report_text deck notes walk =
    flat_map (card_line deck walk) (cards_in deck) ++ other_line deck walk
    ++ flat_map (mark_line walk) notes.marks ++ bound_line walk

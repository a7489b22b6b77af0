-- The text of a ceiling and its walk: what a pass of each mark costs, and how often the walk passes
-- it; and then what the walk takes, and the ceiling. A location has four digits, and other numbers
-- are plain decimal.
use Rattle.std.specs.Prelude.{ℕ, List, ◌++◌, codes, decimal, flat_map, slice_index}
use Rattle.std.specs.List.{enumerate_from}
use Rattle.base_words.specs.Numeral.{digits_of}
use Rattle.base_notes.specs.declared.notes.mark.Mark.{Mark}
use Rattle.base_notes.specs.Allowed.{Notes}
use Rattle.ceiling_rounds.specs.InRounds as walks
use Rattle.ceiling_checked.specs.CeilingOf.{prices_of, total_of}
use Rattle.ceiling_checked.specs.declared.bracket.Bracket.{Bracket}
use Rattle.print_lines.specs.NameText.{name_text}

-- the line of a mark with this price and so many passes, with its name at the end where it has one
abbrev pub price_line : Mark → ℕ → ℕ → List ℕ
price_line mark price passes =
    codes "mark " ++ digits_of 4 mark.from.number ++ codes " " ++ digits_of 4 mark.onto.number
    ++ codes " price " ++ decimal price ++ codes " passed " ++ decimal passes
    ++ name_text mark.name ++ codes "\n"

-- the same of a mark with its index in the notes, with what ceiling and walk have there
abbrev pub price_line_at : Bracket → ℕ × Mark → List ℕ
price_line_at bracket noted =
    price_line noted.1 (slice_index (prices_of bracket.ceiling) noted.0)
    (slice_index (walks.passes_in bracket.walk) noted.0)

-- the lines of what the walk takes, and of the ceiling
abbrev pub total_lines : ℕ → ℕ → List ℕ
total_lines reached total =
    codes "reached " ++ decimal reached ++ codes "\nceiling " ++ decimal total ++ codes "\n"

-- those of a ceiling and the walk beside it
abbrev pub bracket_lines : Bracket → List ℕ
bracket_lines bracket = total_lines (walks.total_of bracket.walk) (total_of bracket.ceiling)

-- The ceiling with its walk: a line for each mark of the notes, in their order, and the two totals.
abbrev pub ceiling_text : Notes → Bracket → List ℕ
ceiling_text notes bracket =
    flat_map (price_line_at bracket) (enumerate_from 0 notes.marks)
    ++ bracket_lines bracket

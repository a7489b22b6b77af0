use Rattle.std.proofs.Common.{List, flat_map, take}
use Rattle.read_decks.specs.InDeck.{cards_in}
use Rattle.flow_walks.specs.Visited.{Visited}
use Rattle.print_lines.specs.Stands.{Passes}
use Rattle.print_walks.specs.Report.{card_line}
use Rattle.print_walks.specs.TalliesOf.{AreByLine}
use Rattle.print_walks.proofs.reporting.lines.put_cards.Given as goal

-- the lines of the cards so far were put
abbrev pub invariant-loop-line : goal.invariant-loop-line
invariant-loop-line g l = (walk : List Visited) → AreByLine l.deck walk l.tallies
    → Passes (g.O.Output.device l.fn.writer) l.fn.sheet (g.O.Output.device l.writer) l.sheet
    (flat_map (card_line l.deck walk) (take l.line-index (cards_in l.deck)))

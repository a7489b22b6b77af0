-- Which lines are held by a deck of which some lines have been read.
use Rattle.std.specs.Prelude.{◌≡◌, List}
use Rattle.std.specs.Option.{option_map}
use Rattle.read_decks.specs.declared.deck.fault.DeckFault.{DeckFault}
use Rattle.read_decks.specs.declared.deck.line_fault.LineFault.{LineFault}
use Rattle.read_decks.specs.declared.deck.loading.Loading.{Loading}
use Rattle.read_decks.specs.DeckText.{Line, comment, IsLine, AreSound}
use Rattle.read_decks.specs.EarlierLines.{first_start, HasLineFault}
use Rattle.read_decks.specs.ImageOfLines.{Holds}
use Rattle.read_decks.specs.Taking.{Rules}

-- A deck of which some lines have been read holds these lines.
pub record HoldsLines (loading : Loading) (lines : List Line) : Type 0 where
  pub deck : Holds loading.image.items loading.cards.items
      (option_map (λ start. start.location) loading.start) lines
  pub begun : option_map (λ start. start.line) loading.start ≡ first_start 1 lines

-- how the lines of a deck are read
abbrev pub deck_rules : Rules Loading (LineFault DeckFault)
deck_rules = record {
  Line = Line;
  comment = comment;
  Says = IsLine;
  AreSound = AreSound;
  HasFault = HasLineFault;
  Holds = HoldsLines;
}

-- What is held of the lines so far, of a deck and of inputs, and which faults the next line has.
use Rattle.std.specs.Prelude.{◌≡◌, List, map}
use Rattle.read_decks.specs.LinesSoFar as of_deck
use Rattle.read_decks.specs.DeckText as deck
use Rattle.read_decks.specs.Taking.{Rules}
use Rattle.read_decks.specs.declared.deck.fault.DeckFault.{DeckFault}
use Rattle.read_replays.specs.InputsText as input
use Rattle.read_replays.specs.Said.{said}
use Rattle.read_replays.specs.declared.fault.InputFault.{InputFault}
use Rattle.read_faults.specs.DeckFaults as of_deck_faults
use Rattle.read_faults.specs.InputFaults as of_input_faults
use Rattle.read_faults.specs.declared.deck_so_far.DeckSoFar.{DeckSoFar}
use Rattle.read_faults.specs.declared.inputs_so_far.InputsSoFar.{InputsSoFar}
use Rattle.read_faults.specs.declared.placed_fault.PlacedFault.{PlacedFault}

abbrev pub deck_rules : Rules DeckSoFar (PlacedFault DeckFault)
deck_rules = record {
  Line = deck.Line;
  comment = deck.comment;
  Says = deck.IsLine;
  AreSound = deck.AreSound;
  HasFault = of_deck_faults.IsPlaced;
  Holds = λ so_far lines. of_deck.HoldsLines so_far.loading lines;
}

-- These lines were said, and are sound.
pub record HoldsInputs (so_far : InputsSoFar) (lines : List input.Line) : Type 0 where
  pub said : map said so_far.before.items ≡ lines
  pub sound : input.AreSound lines

abbrev pub input_rules : Rules InputsSoFar (PlacedFault InputFault)
input_rules = record {
  Line = input.Line;
  comment = input.comment;
  Says = input.IsLine;
  AreSound = input.AreSound;
  HasFault = of_input_faults.IsPlaced;
  Holds = HoldsInputs;
}

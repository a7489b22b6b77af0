-- What inputs state, as they are held.
use Rattle.std.specs.Prelude.{◌≡◌, ℕ, List, map, false, true, Bool, pos, unwrap_or}
use Rattle.base_words.specs.declared.location.Location.{Location}
use Rattle.base_words.specs.declared.word.Word.{Word}
use Rattle.base_words.specs.Word.{word}
use Rattle.machine_steps.specs.declared.card.Card.{Card}
use Rattle.machine_emulator.specs.Feed.{cards_left, waits_left}
use Rattle.read_replays.specs.declared.inputs.Inputs.{Inputs}
use Rattle.read_replays.specs.InputsText.{Line, first_said, angle_in, switches_in, distributor_in}
use Rattle.read_replays.specs.InputsText.{accumulator_in, latch_in, programmed_in, on_overflow_in}
use Rattle.read_replays.specs.InputsText.{given_in, cards_in, waits_in}

-- a word for a location, and a card, as the machine has them
abbrev pub given_word : Location × Word → ℕ × Word
given_word given = (given.0.number, given.1)

abbrev pub read_card : Card → Bool × List Word
read_card card = (card.load, card.words)

-- The inputs state what these lines say: each setting as its line says it, or its default where no
-- line does; words for drum locations, cards and waits in the order of the lines.
pub record AreInputsOf (inputs : Inputs) (lines : List Line) : Type 0 where
  pub angle : inputs.setup.angle ≡ unwrap_or (first_said angle_in lines) 0
  pub switches : inputs.setup.switches ≡ unwrap_or (first_said switches_in lines) (word false 0)
  pub distributor :
      inputs.setup.distributor ≡ unwrap_or (first_said distributor_in lines) (word false 0)
  pub accumulator : inputs.setup.accumulator ≡ unwrap_or (first_said accumulator_in lines) (pos 0)
  pub latch : inputs.setup.latch ≡ unwrap_or (first_said latch_in lines) false
  pub programmed : inputs.setup.programmed ≡ unwrap_or (first_said programmed_in lines) true
  pub on_overflow : inputs.setup.on_overflow ≡ unwrap_or (first_said on_overflow_in lines) true
  pub words : map given_word inputs.setup.words.items ≡ given_in lines
  pub cards : map read_card (cards_left inputs.feed) ≡ cards_in lines
  pub waits : waits_left inputs.feed ≡ waits_in lines

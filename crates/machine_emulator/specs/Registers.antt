-- What the registers and the drum hold, and the cards in the reader beside them.
use Rattle.std.specs.Prelude.{◌≡◌, ℕ, List, ◌∷◌, Option, Some, None, Result, Ok, Err}
use Rattle.machine_steps.specs.declared.card.Card.{Card}
use Rattle.machine_steps.specs.declared.why.Why as whys
use Rattle.machine_steps.specs.Contents.{Contents}
use Rattle.machine_steps.specs.Effect.{Outcome, goes, stops}
use Rattle.machine_emulator.specs.declared.registers.Registers.{Registers}

abbrev pub contents_with : Registers → List Card → Contents
contents_with r cards = record {
  drum = r.drum.items;
  switches = r.switches;
  distributor = r.distributor;
  accumulator = r.accumulator;
  remainder = r.remainder;
  latch = r.latch;
  programmed_stops = r.programmed_stops;
  overflow_stops = r.overflow_stops;
  cards = cards;
}

-- the cards in the reader before one of them was taken
abbrev pub cards_before : Option Card → List Card → List Card
cards_before None cards = cards
cards_before (Some card) cards = card ∷ cards

-- the outcome of which code answers the next location or the stop, and leaves these contents
abbrev pub outcome_of : Result ℕ whys.Why → Contents → Outcome
outcome_of (Ok next) c = goes c next
outcome_of (Err because) c = stops c because

-- Where the registers were these, they become those and answer this: that is an effect, whatever
-- cards are left.
abbrev pub HasEffect : (Contents → Outcome) → Registers → Registers → Result ℕ whys.Why → Type 0
HasEffect does before after answer =
    (cards : List Card)
    → does (contents_with before cards) ≡ outcome_of answer (contents_with after cards)

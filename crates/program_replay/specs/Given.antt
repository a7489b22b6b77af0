-- What inputs give to a replay.
use Rattle.machine_emulator.specs.Feed.{cards_left, waits_left}
use Rattle.read_replays.specs.declared.inputs.Inputs.{Inputs}
use Rattle.program_replay.specs.Replay.{Given}

abbrev pub given : Inputs → Given
given inputs = record {
  setup = inputs.setup;
  cards = cards_left inputs.feed;
  waits = waits_left inputs.feed;
}

use Rattle.read_replays.proofs.Own.{once_given, on_drum_given}
use Rattle.proved_laws.proofs.inputs.each_location_once.Goals as goal

pub returns-clause-once : goal.returns-clause-once
returns-clause-once c = once_given

pub returns-clause-on_drum : goal.returns-clause-on_drum
returns-clause-on_drum c = on_drum_given

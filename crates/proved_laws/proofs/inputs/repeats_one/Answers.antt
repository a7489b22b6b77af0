use Rattle.read_replays.proofs.Repeated as lemmas
use Rattle.proved_laws.proofs.inputs.repeats_one.Goals as goal

pub returns : goal.returns
returns c = lemmas.repeats_one

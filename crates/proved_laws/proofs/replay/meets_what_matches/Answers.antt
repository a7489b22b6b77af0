use Rattle.program_replay.proofs.Seen.{meeting}
use Rattle.proved_laws.proofs.replay.meets_what_matches.Goals as goal

pub returns : goal.returns
returns c = meeting

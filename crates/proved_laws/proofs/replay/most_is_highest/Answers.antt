use Rattle.machine_steps.specs.Counts.{no_counts}
use Rattle.program_replay.proofs.Seen.{none_above, reached_from}
use Rattle.proved_laws.proofs.replay.most_is_highest.Goals as goal

pub returns-clause-reached : goal.returns-clause-reached
returns-clause-reached c notes strides place = reached_from notes place (no_counts notes.marks) strides

pub returns-clause-highest : goal.returns-clause-highest
returns-clause-highest c notes strides place n = none_above notes place (no_counts notes.marks) strides n

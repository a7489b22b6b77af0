use Rattle.read_toml.proofs.TimesEntries.{times_there}
use Rattle.read_toml.proofs.laws.says_times.Goals as goal

pub returns-clause-right : goal.returns-clause-right
returns-clause-right c = λ document times is. is.faultless

pub returns-clause-said : goal.returns-clause-said
returns-clause-said c = times_there

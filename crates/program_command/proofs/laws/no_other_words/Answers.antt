use Rattle.std.proofs.Common.{arith, refl}
use Rattle.clap.proofs.OnLiterals.{clap_on_literals}
use Rattle.program_command.proofs.laws.no_other_words.Goals as goal

pub returns-clause-none : goal.returns-clause-none
unfolding clap_on_literals
returns-clause-none c = refl

pub returns-clause-version : goal.returns-clause-version
unfolding clap_on_literals
returns-clause-version c = refl

pub returns-clause-help : goal.returns-clause-help
unfolding clap_on_literals
returns-clause-help c = (1, omega arith, refl)

use Rattle.print_ceilings.proofs.Laid.{one_walk}
use Rattle.proved_laws.proofs.bracket.spelled_out_is_one.Goals as goal

pub returns : goal.returns
returns c = λ g walk visits others. one_walk g walk visits others

use Rattle.program_command.proofs.Named.{all_lines}
use Rattle.program_command.proofs.laws.each_line_is_taken.Goals as goal

pub returns-clause-taken : goal.returns-clause-taken
returns-clause-taken c k d within words names = (all_lines k d within words names).0

pub returns-clause-said : goal.returns-clause-said
returns-clause-said c k d within words names = (all_lines k d within words names).1

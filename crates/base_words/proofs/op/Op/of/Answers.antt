use Rattle.base_words.proofs.OpLaws.{found_in_list}
use Rattle.base_words.proofs.op.Op.of.Goals as goal

pub returns-clause-listed : goal.returns-clause-listed
returns-clause-listed c = found_in_list _ _ c.with_number.ensures.found c.with_number.ensures.none

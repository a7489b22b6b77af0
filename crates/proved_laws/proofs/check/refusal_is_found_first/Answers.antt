use Rattle.proved_laws.proofs.Firsts.{admission_refusal_first, refusal_first}
use Rattle.proved_laws.proofs.check.refusal_is_found_first.Goals as goal

pub returns-clause-short : goal.returns-clause-short
returns-clause-short c loads notes start refusal findings short is a =
    refusal_first loads notes start findings a refusal short is

pub returns-clause-long : goal.returns-clause-long
returns-clause-long c loads notes start refusal findings long is a =
    admission_refusal_first loads notes start findings a refusal long is

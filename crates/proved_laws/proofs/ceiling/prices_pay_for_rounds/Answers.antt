use Rattle.ceiling_checked.proofs.Rounded.{rounds_paid}
use Rattle.proved_laws.proofs.ceiling.prices_pay_for_rounds.Goals as goal

pub returns : goal.returns
returns c g prices form total proper is = rounds_paid g prices form total proper is

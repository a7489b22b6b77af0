use Rattle.bound_scan.proofs.DigitsLaws.{counts_for_number}
use Rattle.proved_laws.proofs.bound.a_number_stands_for_its_counts.Goals as goal

pub returns : goal.returns
returns c = counts_for_number

use Rattle.print_hops.proofs.DataAngles.{same_data_at}
use Rattle.proved_laws.proofs.listing.data_angles_are_one.Goals as goal

pub returns : goal.returns
returns c = λ times angle a b. same_data_at times angle a b

use Rattle.print_hops.proofs.NextAngles.{same_next_at}
use Rattle.proved_laws.proofs.listing.next_angles_are_one.Goals as goal

pub returns : goal.returns
returns c = λ g angle a b op. same_next_at g angle a b op

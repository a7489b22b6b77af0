use Rattle.print_hops.proofs.AddingUp.{kind_fits, kinds_add_up}
use Rattle.print_hops.proofs.WholeFits.{whole_fits}
use Rattle.proved_laws.proofs.listing.waits_add_up.Goals as goal

pub returns-clause-times : goal.returns-clause-times
returns-clause-times c = λ g angle used walk firsts. kinds_add_up g angle used walk firsts

pub returns-clause-columns : goal.returns-clause-columns
returns-clause-columns c = λ g angle used walk one. kind_fits g angle used walk one

pub returns-clause-whole : goal.returns-clause-whole
returns-clause-whole c = λ g angle used walk. whole_fits g angle used walk

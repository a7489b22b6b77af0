use Rattle.proved_laws.proofs.SlowerTables.{slower_walk}
use Rattle.proved_laws.proofs.flow.slower_table_slower_walk.Goals as goal

pub returns : goal.returns
returns c = λ g slower angle hops are walk. slower_walk g slower are angle hops walk

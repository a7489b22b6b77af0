use Rattle.flow_graph.proofs.PassLaws.{no_counts_within}
use Rattle.ceiling_checked.proofs.Bounded.{walk_total}
use Rattle.proved_laws.proofs.ceiling.certificate_bounds_walks.Goals as goal

pub returns : goal.returns
returns c g owed total angle hops proper is walk =
    walk_total g owed total is angle hops proper.starts (no_counts_within g.notes.marks) walk

use Rattle.flow_graph.proofs.LongestLaws.{later_end}
use Rattle.proved_laws.proofs.flow.later_start_no_earlier_end.Goals as goal

pub returns : goal.returns
returns c = later_end

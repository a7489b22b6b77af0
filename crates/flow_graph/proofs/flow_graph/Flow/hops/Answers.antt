use Rattle.base_graphs.proofs.Lists.{contains_from_get}
use Rattle.flow_graph.specs.Flow.{executed_in}
use Rattle.flow_graph.proofs.flow_graph.Flow.hops.Goals as goal

pub returns-in-Some-clause-others : goal.returns-in-Some-clause-others
returns-in-Some-clause-others c none =
    absurd (none (contains_from_get (executed_in c.args.self.now) c.in-Some.field-0 c.args.location.number
    c.in-Some.ensures.found))

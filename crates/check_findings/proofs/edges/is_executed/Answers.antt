use Rattle.std.proofs.Common.{◌∙◌}
use Rattle.flow_graph.specs.Flow.{executed_in}
use Rattle.flow_graph.proofs.Among.{among_found}
use Rattle.check_findings.proofs.edges.is_executed.Goals as goal

pub returns : goal.returns
returns c =
    c.is_some.ensures ∙ among_found (executed_in c.args.flow.now) c.args.location.number c.index_of.result
    c.index_of.ensures.found c.index_of.ensures.none

use Rattle.base_graphs.specs.Graph.{row, size}
use Rattle.flow_loops.proofs.Arrangements.{last_within}
use Rattle.flow_loops.proofs.arrangement.Arrangement.step.Goals as goal

pub pass-requires-clause-within : goal.pass-requires-clause-within
pass-requires-clause-within c =
    let search = c.args.self.now in
    last_within (row c.args.graph.now) (size c.args.graph.now) search.met.items search.passed.items search.path.items
    search.finished.items c.requires.sound c.args.node c.requires.last

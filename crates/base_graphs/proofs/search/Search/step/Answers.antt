use Rattle.std.proofs.Common.{arith}
use Rattle.base_graphs.specs.Graph.{row, size}
use Rattle.base_graphs.proofs.Searches.{last_within}
use Rattle.base_graphs.proofs.search.Search.step.Goals as goal

pub pass-requires-clause-within : goal.pass-requires-clause-within
pass-requires-clause-within c =
    let search = c.args.self.now in
    last_within (row c.args.graph.now) (size c.args.graph.now) search.states.items search.passed.items search.path.items
    search.finished.items c.args.node c.requires.sound c.requires.last

pub state-requires : goal.state-requires
state-requires c =
    omega (
      arith,
      c.args.graph.now.within c.args.node c.in-Some.next c.in-Some.ensures.edge,
      c.in-Some.ensures.sound.states_long,
    )

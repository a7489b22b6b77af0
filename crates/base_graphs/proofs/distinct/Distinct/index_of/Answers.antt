use Rattle.std.proofs.Common.{ap, ◌∙◌}
use Rattle.std.specs.Prelude.{is_some}
use Rattle.base_graphs.proofs.Positions.{position_there}
use Rattle.base_graphs.proofs.distinct.Distinct.index_of.Goals as goal

pub returns-clause-found : goal.returns-clause-found
returns-clause-found g c =
    ap is_some (c.copied.ensures ∙ c.get.ensures.value ∙ c.args.self.now.agree c.args.key)
    ∙ position_there (g.K.PartialEq.eq c.args.key) c.args.self.now.keys.items

use Rattle.std.proofs.Common.{refl, ap, ◌∙◌}
use Rattle.base_words.specs.contracts.location.LocationPartialEq.TheImpl.{eq-value}
use Rattle.flow_graph.proofs.Founds.{numbers, numbers_added}
use Rattle.flow_graph.proofs.location_set.LocationSet.add.Goals as goal

pub returns : goal.returns
returns c =
    ap numbers c.in_ok-add.ensures.keys
    ∙ numbers_added eq-value.it (λ a b. refl) c.args.self.now.locations.keys.items c.args.location

use Rattle.std.proofs.Common.{refl}
use Rattle.base_words.specs.contracts.location.LocationPartialEq.TheImpl.{eq-value}
use Rattle.flow_graph.proofs.Founds.{numbers_different, few_locations}
use Rattle.flow_graph.proofs.location_set.LocationSet.locations.Goals as goal

pub returns-clause-different : goal.returns-clause-different
returns-clause-different c =
    numbers_different eq-value.it (λ a b. refl) c.args.self.now.locations.keys.items c.as_slice.ensures.apart

pub returns-clause-few : goal.returns-clause-few
returns-clause-few c =
    few_locations c.args.self.now.locations.keys.items
    (numbers_different eq-value.it (λ a b. refl) c.args.self.now.locations.keys.items c.as_slice.ensures.apart)

use Rattle.std.proofs.Common.{ap, ◌∙◌, arith}
use Rattle.std.specs.Prelude.{slice_get}
use Rattle.std.proofs.lemmas.Option.{slice_get_within, get_or_from_slice_get}
use Rattle.base_graphs.proofs.Lists.{contains_at}
use Rattle.flow_acceptance.specs.OrderedFlow.{in_order}
use Rattle.bound_scan.proofs.keys.Keys.index_of.Goals as goal

pub index-requires : goal.index-requires
index-requires c =
    let found = contains_at (in_order c.args.self.now.accepted.now) c.args.location.number c.requires.there in
    let places = c.args.self.now.indices in
    omega (
      arith,
      slice_get_within places.items c.args.location.number found.0
          (c.requires.keys.indices found.0 c.args.location.number found.1),
      places.ok.0,
    )

pub returns : goal.returns
returns c =
    let found = contains_at (in_order c.args.self.now.accepted.now) c.args.location.number c.requires.there in
    let places = c.args.self.now.indices in
    let is = get_or_from_slice_get places.items c.args.location.number found.0 c.index.result.now
    (c.requires.keys.indices found.0 c.args.location.number found.1) in
    ap (slice_get (in_order c.args.self.now.accepted.now)) (c.index.ensures ∙ is) ∙ found.1

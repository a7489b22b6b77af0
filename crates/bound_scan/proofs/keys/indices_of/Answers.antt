use Rattle.std.proofs.Common.{◌≡◌, ◌+◌, Some, set, refl, subst, arith}
use Rattle.std.specs.Prelude.{slice_get}
use Rattle.base_words.specs.declared.location.Location.{Location}
use Rattle.bound_scan.specs.KeysOf.{numbers}
use Rattle.flow_graph.proofs.Founds.{number_at}
use Rattle.bound_scan.proofs.Nodes.{HaveIndicesBelow, place_written, all_places}
use Rattle.bound_scan.proofs.keys.indices_of.Goals as goal

pub loop-index-preserved : goal.loop-index-preserved
loop-index-preserved c =
    let location = c.index-order-index.result in
    let order = c.args.order.now in
    let k = c.loop-index.index in
    let here : slice_get (numbers order) k ≡ Some location.number =
    number_at order (numbers order) k location refl c.loop-index-test.true c.index-order-index.is in
    record {
      long = c.loop-index.invariant.long;
      indices = subst (λ (one : Location). HaveIndicesBelow (k + 1) order (set c.loop-index.indices.items one.number k))
          c.index-order-index.is
          (place_written order c.loop-index.indices.items k location.number c.requires
          (omega (arith, location.exists.0, c.loop-index.invariant.long, c.loop-index.indices.ok.0)) here
          c.loop-index.invariant.indices);
    }

pub returns : goal.returns
returns c = all_places c.args.order.now c.loop-index.indices.items c.loop-index.index c.loop-index-test.false
    c.loop-index.invariant.indices

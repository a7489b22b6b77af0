use Rattle.bound_scan.proofs.Limits.{limited_as}
use Rattle.bound_scan.proofs.cells.limited.Limited.reserve.Goals as goal

pub invariant_of-self : goal.invariant_of-self
invariant_of-self c =
    let old = c.args.self.now in
    let few = limited_as c.reserve.new.self.entries old.map.entries old.keys c.reserve.ensures.entries
    (record { below = old.below; limit = old.limit }) in
    record { below = few.below; limit = few.limit }

use Rattle.bound_scan.proofs.Limits.{limited_put}
use Rattle.bound_scan.proofs.cells.limited.Limited.put.Goals as goal

pub invariant_of-self : goal.invariant_of-self
invariant_of-self c =
    let old = c.args.self.now in
    let few = limited_put old.map.entries c.args.index old.keys c.args.entry old.below old.limit in
    record { below = few.below; limit = few.limit }

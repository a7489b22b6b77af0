use Rattle.std.proofs.Common.{◌≡◌, ℕ, ◌<◌, length, Some, arith}
use Rattle.std.specs.Prelude.{slice_get}
use Rattle.std.proofs.lemmas.Option.{slice_get_within}
use Rattle.base_graphs.proofs.Lists.{contains_at}
use Rattle.flow_graph.proofs.Founds.{numbers}
use Rattle.flow_graph.proofs.Turns.{location_at}
use Rattle.flow_graph.proofs.cycle.place_of_smallest.Goals as goal

pub returns-clause-least : goal.returns-clause-least
returns-clause-least c least other here there =
    let locations = c.args.locations.now in
    let at : (k : ℕ) × (slice_get (numbers locations) k ≡ Some other) = contains_at (numbers locations) other there in
    let small = location_at locations c.loop-place.smallest least here in
    let one = location_at locations at.0 other at.1 in
    let inside : at.0 < length locations = slice_get_within locations at.0 one.0 one.1 in
    let low =
    c.loop-place.invariant.least at.0 small.0 one.0 (omega (arith, inside, c.loop-place-test.false)) small.1
    one.1 in
    omega (arith, low, small.2, one.2)

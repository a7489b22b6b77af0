use Rattle.std.proofs.Common.{◌≡◌, ◌<◌, ◌++◌, ◌∷◌, ℕ, List, length, reverse, sym, subst, arith, []}
use Rattle.std.specs.Prelude.{IsSome}
use Rattle.base_graphs.specs.Graph.{row, size}
use Rattle.base_graphs.proofs.Searches.{popped}
use Rattle.flow_loops.specs.Arranging.{IsArranging}
use Rattle.flow_loops.proofs.Arrangements.{leave_sound}
use Rattle.flow_loops.proofs.arrangement.Arrangement.leave.Goals as goal

pub returns-clause-sound : goal.returns-clause-sound
returns-clause-sound c =
    let search = c.args.self.now in
    let some : 0 < length search.path.items → IsSome c.pop.result =
    λ long. c.pop.ensures.variant.1 (omega (arith, long, search.path.ok.0)) in
    let split : search.path.items ≡ c.pop.new.self.items ++ c.args.node ∷ [] =
    popped search.path.items c.pop.new.self.items c.pop.result c.args.node c.pop.ensures.items some
    c.requires.last in
    subst (λ (finished : List ℕ). IsArranging (row c.args.graph.now) (size c.args.graph.now)
    search.met.items search.passed.items c.pop.new.self.items finished (c.pop.new.self.items ++ reverse finished))
    (sym c.in_ok-push.ensures.items)
    (leave_sound (row c.args.graph.now) (size c.args.graph.now) search.met.items search.passed.items
    search.path.items search.finished.items c.args.node c.pop.new.self.items c.requires.sound split c.requires.last
    c.requires.all)

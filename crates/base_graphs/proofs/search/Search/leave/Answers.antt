-- Of Search::leave: the path's last node is open, and all that its edges lead to is finished. So it
-- may be finished too: the search stays sound, has less work left, and forgets no node that it met.
use Rattle.std.proofs.Common.{◌≡◌, ◌≢◌, ◌<◌, ◌++◌, ◌∷◌, [], ℕ, List, length, Some, sym, subst, arith}
use Rattle.std.specs.Prelude.{slice_get, slice_set, IsSome}
use Rattle.std.proofs.lemmas.Option.{slice_get_within}
use Rattle.base_graphs.specs.declared.progress.Progress.TheVariants.{New, Open, Finished}
use Rattle.base_graphs.specs.Graph.{row, size}
use Rattle.base_graphs.specs.Search.{IsSearch}
use Rattle.base_graphs.proofs.Searches.{last_open, leave_sound, forgets_none, less_left, popped}
use Rattle.base_graphs.proofs.search.Search.leave.Goals as goal

pub index_mut-requires : goal.index_mut-requires
index_mut-requires c =
    let search = c.args.self.now in
    let opened : slice_get search.states.items c.args.node ≡ Some Open =
    last_open (row c.args.graph.now) (size c.args.graph.now) search.states.items search.passed.items search.path.items
    search.finished.items c.args.node c.requires.sound c.requires.last in
    let long : c.args.node < length search.states.items =
    slice_get_within search.states.items c.args.node Open opened in
    omega (arith, long, search.states.ok.0)

pub returns-clause-sound : goal.returns-clause-sound
returns-clause-sound c =
    let search = c.args.self.now in
    let some : 0 < length search.path.items → IsSome c.pop.result =
    λ long. c.pop.ensures.variant.1 (omega (arith, long, search.path.ok.0)) in
    let split : search.path.items ≡ c.pop.new.self.items ++ c.args.node ∷ [] =
    popped search.path.items c.pop.new.self.items c.pop.result c.args.node c.pop.ensures.items some
    c.requires.last in
    subst (λ (finished : List ℕ). IsSearch (row c.args.graph.now) (size c.args.graph.now)
    (slice_set search.states.items c.args.node Finished) search.passed.items c.pop.new.self.items finished)
    (sym c.in_ok-push.ensures.items)
    (leave_sound (row c.args.graph.now) (size c.args.graph.now) search.states.items search.passed.items
    search.path.items search.finished.items c.args.node c.pop.new.self.items c.requires.sound split c.requires.all)

pub returns-clause-less : goal.returns-clause-less
returns-clause-less c =
    let search = c.args.self.now in
    let opened : slice_get search.states.items c.args.node ≡ Some Open =
    last_open (row c.args.graph.now) (size c.args.graph.now) search.states.items search.passed.items search.path.items
    search.finished.items c.args.node c.requires.sound c.requires.last in
    less_left search.states.items c.args.node Open Finished opened (omega arith)

pub returns-clause-kept : goal.returns-clause-kept
returns-clause-kept c =
    let search = c.args.self.now in
    let opened : slice_get search.states.items c.args.node ≡ Some Open =
    last_open (row c.args.graph.now) (size c.args.graph.now) search.states.items search.passed.items search.path.items
    search.finished.items c.args.node c.requires.sound c.requires.last in
    let not_new : Finished ≢ New = λ e. cc in
    forgets_none search.states.items c.args.node Finished (slice_get_within search.states.items c.args.node Open opened)
    not_new

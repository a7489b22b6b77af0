use Rattle.std.proofs.Common.{◌≡◌, ◌-◌, ℕ, List, length, take, drop, Some, sym, ap, ◌∙◌, subst}
use Rattle.std.specs.Prelude.{slice_get}
use Rattle.std.proofs.lemmas.List.{take_rest}
use Rattle.std.proofs.lemmas.Result.{IfOk-weaker}
use Rattle.base_graphs.specs.Graph.{row, size, IsCycle}
use Rattle.base_graphs.proofs.Searches.{cycle_closed}
use Rattle.base_graphs.proofs.search.Search.cycle.Goals as goal

pub returns : goal.returns
returns c =
    let search = c.args.self.now in
    let at = c.place_of-at.result in
    let here : slice_get search.path.items at ≡ Some c.args.first =
    sym (ap (λ (xs : List ℕ). slice_get xs at) c.deref.ensures.value) ∙ c.place_of-at.ensures.here in
    let cycle : IsCycle (row c.args.graph.now) (size c.args.graph.now) (drop at search.path.items) =
    cycle_closed (row c.args.graph.now) (size c.args.graph.now) search.states.items search.passed.items
    search.path.items search.finished.items at c.args.first c.requires.sound here c.requires.edge in
    let part : take (length c.deref-2.result.now - at) (drop at c.deref-2.result.now) ≡ drop at search.path.items =
    take_rest c.deref-2.result.now at ∙ ap (λ (xs : List ℕ). drop at xs) c.deref-2.ensures.value in
    IfOk-weaker c.from_slice.result
    (λ v. v.items ≡ take (length c.deref-2.result.now - at) (drop at c.deref-2.result.now))
    (λ v. IsCycle (row c.args.graph.now) (size c.args.graph.now) v.items)
    (λ v e. subst (IsCycle (row c.args.graph.now) (size c.args.graph.now)) (sym (e ∙ part)) cycle)
    c.from_slice.ensures.items

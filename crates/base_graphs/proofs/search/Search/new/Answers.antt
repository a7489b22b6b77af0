use Rattle.std.proofs.Common.{rules, ◌≡◌, ℕ, replicate, ap, ◌∙◌}
use Rattle.base_graphs.specs.declared.progress.Progress.TheVariants.{New}
use Rattle.base_graphs.specs.Graph.{row, size}
use Rattle.base_graphs.proofs.Searches.{new_sound}
use Rattle.base_graphs.proofs.search.Search.new.Goals as goal

pub returns-clause-sound : goal.returns-clause-sound
returns-clause-sound c =
    let graph = c.args.graph.now in
    let states : c.in_ok-states.states.items ≡ replicate (size graph) New =
    c.in_ok-states.ensures.items_if_clones_equal (λ y h. search rules)
    ∙ ap (λ (n : ℕ). replicate n New) c.size-size.ensures in
    let passed : c.in_ok-passed.passed.items ≡ replicate (size graph) 0 =
    c.in_ok-passed.ensures.items_if_clones_equal (λ y h. search rules)
    ∙ ap (λ (n : ℕ). replicate n 0) c.size-size.ensures in
    rw (states, passed, c.new.ensures.items, c.new-2.ensures.items) (new_sound (row graph) (size graph))

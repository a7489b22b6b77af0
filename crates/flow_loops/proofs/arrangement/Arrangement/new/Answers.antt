use Rattle.std.proofs.Common.{rules, ◌≡◌, ℕ, false, replicate, ap, ◌∙◌}
use Rattle.base_graphs.specs.Graph.{row, size}
use Rattle.flow_loops.proofs.Arrangements.{new_sound}
use Rattle.flow_loops.proofs.arrangement.Arrangement.new.Goals as goal

pub returns-clause-sound : goal.returns-clause-sound
returns-clause-sound c =
    let graph = c.args.graph.now in
    let met : c.in_ok-met.met.items ≡ replicate (size graph) false =
    c.in_ok-met.ensures.items_if_clones_equal (λ y h. search rules)
    ∙ ap (λ (n : ℕ). replicate n false) c.size-size.ensures in
    let passed : c.in_ok-passed.passed.items ≡ replicate (size graph) 0 =
    c.in_ok-passed.ensures.items_if_clones_equal (λ y h. search rules)
    ∙ ap (λ (n : ℕ). replicate n 0) c.size-size.ensures in
    rw (met, passed, c.new.ensures.items, c.new-2.ensures.items) (new_sound (row graph) (size graph))

use Rattle.std.proofs.Common.{◌≡◌, ℕ, List, ◌∷◌, ◌++◌, length, Option, sym, subst, arith, []}
use Rattle.std.specs.Prelude.{slice_index_or, Contains}
use Rattle.machine_steps.specs.declared.open.Open.{Open}
use Rattle.machine_steps.specs.Calls.{open_after}
use Rattle.machine_steps.specs.OpenIn.{between, open_in}
use Rattle.flow_graph.specs.InNodes.{ways_in, ArePlacedIn}
use Rattle.flow_graph.proofs.InNodesLaws.{placed_last}
use Rattle.flow_graph.proofs.openings.index_behind.Goals as goal

pub returns-in_ok-push-in-Err : goal.returns-in_ok-push-in-Err
returns-in_ok-push-in-Err c =
    let calls = c.args.calls.now in
    let openings = c.args.openings.now.items in
    let ways = open_after calls (between c.args.from c.args.onto)
    (slice_index_or (ways_in calls openings) c.args.before []) in
    let one = c.in-Err.open in
    let new : (open_in one calls ≡ ways) × ¬ Contains (ways_in calls openings) (open_in one calls) =
    subst (λ (os : List Open). (open_in one calls ≡ open_after calls (between c.args.from c.args.onto)
    (slice_index_or (ways_in calls os) c.args.before [])) × ¬ Contains (ways_in calls os) (open_in one calls))
    c.deref.ensures.value c.in-Err.ensures.new in
    subst (λ (after : List Open). ArePlacedIn calls openings after ways c.len-index.result) (sym c.in_ok-push-in-Err.ensures.items)
    (subst (λ (index : ℕ). ArePlacedIn calls openings (openings ++ one ∷ []) ways index)
    (omega (arith, c.len-index.ensures, c.args.openings.now.ok.0))
    (subst (λ (w : List (Option ℕ)). ArePlacedIn calls openings (openings ++ one ∷ []) w (length openings))
    new.0 (placed_last calls openings one new.1)))

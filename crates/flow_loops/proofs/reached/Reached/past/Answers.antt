-- Of past: when all have added what edges lead to from them, the nodes are closed under edges that
-- don't lead onto the avoided location. They are no more than the graph has, so all get their turn.
use Rattle.std.proofs.Common.{◌≡◌, ℕ, ◌≤◌, List, length, get_or, Option, Some, None, sym, ap, ◌∙◌, subst, inl, inr}
use Rattle.std.proofs.Common.{arith}
use Rattle.std.specs.Prelude.{slice_get, filter, Contains}
use Rattle.std.proofs.lemmas.Bool.{cases_lt}
use Rattle.std.proofs.lemmas.Option.{slice_get-get_or}
use Rattle.base_graphs.specs.Graph.{row, size}
use Rattle.base_graphs.proofs.Lists.{contains_from_get}
use Rattle.flow_graph.specs.Executed.{with_new}
use Rattle.flow_loops.specs.Closing.{places_in}
use Rattle.flow_loops.specs.Reached.{is_elsewhere, nodes_in}
use Rattle.flow_loops.proofs.Reachings.{all_reached, reached_few, reached_within, reaching_more}
use Rattle.flow_loops.proofs.reached.Reached.past.Goals as goal
use Rattle.flow_loops.proofs.reached.Reached.past.Goals.{else-loop-turn-test, then-loop-turn-test+in_default}

past_end : (xs : List ℕ) (k : ℕ) → slice_get xs k ≡ None → length xs ≤ k
past_end xs k none = elim (cases_lt k (length xs)) [
  | inl inside ↦ (let clash : ◌≡◌ {A = Option ℕ} None (Some (get_or xs k 0)) = sym none
      ∙ slice_get-get_or xs k 0 inside in cc)
  | inr past ↦ past
]

pub row-requires : goal.row-requires
row-requires c =
    let graph = c.args.graph.now in
    let nodes = nodes_in c.loop-turn.reached in
    reached_within (row graph) (places_in c.args.flow.now) c.args.avoided.number c.args.from (size graph) graph.within
    c.requires.from c.in-Some.node
    (c.loop-turn.invariant.reaching.reached c.in-Some.node
    (contains_from_get nodes c.loop-turn.turn c.in-Some.node (sym c.in-Some.ensures)))

pub add_row-requires-clause-within : goal.add_row-requires-clause-within
add_row-requires-clause-within c node there =
    let inside = c.args.graph.now.within c.in-Some.node node
    (subst (λ (nodes : List ℕ). Contains nodes node) c.row.ensures there) in
    omega (arith, inside, c.requires.size)

pub loop-turn-preserved : goal.loop-turn-preserved
loop-turn-preserved c =
    let places = places_in c.args.flow.now in
    let avoided = c.args.avoided.number in
    let nodes = nodes_in c.loop-turn.reached in
    record {
      met = c.in_ok-add_row.ensures.met;
      reaching =
          reaching_more (row c.args.graph.now) places avoided c.args.from c.loop-turn.turn c.in-Some.node nodes
          c.loop-turn.invariant.reaching (sym c.in-Some.ensures) (nodes_in c.add_row.new.self)
          (c.in_ok-add_row.ensures.added
          ∙ ap (λ (all : List ℕ). with_new nodes (filter (is_elsewhere places avoided) all)) c.row.ensures);
    }

pub returns-clause-within : goal.returns-clause-within
returns-clause-within c node there =
    let graph = c.args.graph.now in
    reached_within (row graph) (places_in c.args.flow.now) c.args.avoided.number c.args.from (size graph) graph.within
    c.requires.from node (c.loop-turn.invariant.reaching.reached node there)

pub returns-clause-reached : goal.returns-clause-reached
returns-clause-reached c node =
    let graph = c.args.graph.now in
    let places = places_in c.args.flow.now in
    let nodes = nodes_in c.loop-turn.reached in
    let few : length nodes ≤ size graph =
    reached_few (row graph) places c.args.avoided.number c.args.from (size graph) graph.within c.loop-turn.turn nodes
    c.requires.from c.loop-turn.invariant.reaching in
    let all : length nodes ≤ c.loop-turn.turn = elim c.loop-turn-test.branch [
      | else-loop-turn-test w ↦ omega (arith, few, w.loop-turn-test.false, c.size-turn-end.ensures)
      | then-loop-turn-test+in_default w ↦ past_end nodes c.loop-turn.turn (sym w.in_default.ensures)
    ] in (
      c.loop-turn.invariant.reaching.reached node,
      all_reached (row graph) places c.args.avoided.number c.args.from c.loop-turn.turn nodes
          c.loop-turn.invariant.reaching all node,
    )

-- Of nodes_of: the nodes so far are the locations of the order so far, each with its hops, which
-- are those of the definition since the location is executed.
use Rattle.std.proofs.Common.{◌≡◌, ℕ, ◌+◌, List, [], ◌∷◌, ◌++◌, take, Some, sym, ap, ◌∙◌, subst, inl, inr}
use Rattle.std.specs.Prelude.{slice_get, Contains}
use Rattle.std.proofs.lemmas.List.Elements.{Contains-push_cases}
use Rattle.read_decks.specs.InDeck.{loads_in}
use Rattle.base_graphs.proofs.Lists.{contains_from_get}
use Rattle.flow_graph.specs.declared.flow_graph.Flow.{Flow}
use Rattle.flow_graph.specs.Flow.{deck_of, notes_of, executed_in}
use Rattle.flow_graph.specs.Hops.{hops}
use Rattle.flow_graph.specs.HopsLeft.{hops_left}
use Rattle.flow_graph.proofs.Founds.{number_at, numbers_more}
use Rattle.flow_acceptance.specs.OrderedFlow.{in_order}
use Rattle.bound_scan.specs.declared.keys.Node.{Node}
use Rattle.bound_scan.specs.KeysOf.{HaveHops, numbers, nodes_in}
use Rattle.bound_scan.proofs.Nodes.{nodes_more}
use Rattle.bound_scan.proofs.keys.nodes_of.Goals as goal

pub loop-location-preserved : goal.loop-location-preserved
loop-location-preserved c =
    let locations = c.order-location-items.result.now in
    let k = c.loop-location.location-index in
    let location = c.location-item.result in
    let nodes = c.loop-location.nodes.items in
    let node : Node = record { location = location; hops = c.hops-hops.result } in
    let here : slice_get (in_order c.args.accepted.now) k ≡ Some location.number =
    number_at locations (in_order c.args.accepted.now) k location c.order-location-items.ensures
    c.loop-location-test.true c.location-item.is in
    let executed : Contains (executed_in c.args.accepted.now.flow) location.number =
    c.requires location.number (contains_from_get (in_order c.args.accepted.now) k location.number here) in
    let its_hops : hops_left node.hops
    ≡ hops (loads_in (deck_of c.args.accepted.now.flow)) (notes_of c.args.accepted.now.flow) location.number =
    subst (λ (f : Flow). hops_left node.hops ≡ hops (loads_in (deck_of f)) (notes_of f) location.number)
    c.flow.ensures (c.hops-hops.ensures.executed
    (subst (λ (f : Flow). Contains (executed_in f) location.number) (sym c.flow.ensures) executed)) in
    let pushed : c.push.new.self.items ≡ nodes ++ node ∷ [] = c.in_ok-push.ensures.items in
    record {
      places = subst (λ (all : List Node). nodes_in all ≡ numbers (take (k + 1) locations)) (sym pushed)
          (nodes_more nodes node ∙ ap (λ (ns : List ℕ). ns ++ location.number ∷ []) c.loop-location.invariant.places
          ∙ sym (numbers_more locations k location c.loop-location-test.true c.location-item.is));
      hops = subst (HaveHops c.args.accepted.now) (sym pushed)
          (λ one there. elim (Contains-push_cases nodes node one there) [
            | inl before ↦ c.loop-location.invariant.hops one before
            | inr same ↦ subst (λ (s : Node). hops_left s.hops
                ≡ hops (loads_in (deck_of c.args.accepted.now.flow)) (notes_of c.args.accepted.now.flow)
                s.location.number) same its_hops
          ]);
    }

-- Of add_next: the targets' nodes are added one by one, and what is open at the node stays what it was.
use Rattle.std.proofs.Common.{◌≡◌, ℕ, ◌+◌, ◌<◌, List, ◌∷◌, ◌++◌, length, get_or, take, ap, sym, ◌∙◌, []}
use Rattle.std.proofs.Common.{append_assoc}
use Rattle.std.specs.Prelude.{flat_map}
use Rattle.std.proofs.lemmas.Grind.{flat_map-append}
use Rattle.std.proofs.lemmas.List.{append-nil, take_all}
use Rattle.base_words.specs.declared.location.Location.{Location}
use Rattle.read_decks.specs.InDeck.{loads_in}
use Rattle.machine_steps.specs.declared.open.Open.{Open}
use Rattle.flow_graph.specs.Executed.{onward, same_node, successors, with_new, with_new_by}
use Rattle.flow_graph.specs.InNodes.{node_in, node_of, nodes_in}
use Rattle.flow_graph.specs.Hops.{Node}
use Rattle.flow_graph.proofs.Adding.{grown_append}
use Rattle.flow_graph.proofs.Founds.{numbers, numbers_more}
use Rattle.flow_graph.proofs.InNodesLaws.{node_stays}
use Rattle.flow_graph.proofs.Links.{node_law}
use Rattle.flow_graph.proofs.nodes.Nodes.add_next.Goals as goal

-- what the targets stand for, with one more
onward_more : (f : ℕ → List Node) (targets : List Location) (k : ℕ) (onto : Location) → k < length targets
    → onto ≡ get_or targets k onto
    → flat_map f (numbers (take (k + 1) targets)) ≡ flat_map f (numbers (take k targets)) ++ f onto.number
onward_more f targets k onto below is =
    ap (flat_map f) (numbers_more targets k onto below is)
    ∙ flat_map-append f (numbers (take k targets)) (onto.number ∷ [])
    ∙ ap (λ (t : List Node). flat_map f (numbers (take k targets)) ++ t) (append-nil (f onto.number))

pub loop-onto-preserved : goal.loop-onto-preserved
loop-onto-preserved c =
    let notes = c.args.notes.now in
    let calls = notes.calls in
    let from = c.args.from in
    let first = c.args.self.now in
    let self = c.loop-onto.self in
    let is = c.loop-onto.invariant in
    let targets = c.locations-onto-items.result.now in
    let k = c.loop-onto.onto-index in
    let onto = c.onto-item.result in
    let f : ℕ → List Node = onward notes (node_in calls first from) in
    let same : node_in calls self from ≡ node_in calls first from =
    ap (λ (os : List Open). node_of calls os from) is.kept
    ∙ node_stays calls first.openings.items is.more from c.requires.from in
    record {
      added = c.in_ok-add_onward.ensures.nodes
          ∙ ap (λ (n : Node). with_new_by same_node (nodes_in calls self) (onward notes n onto.number)) same
          ∙ ap (λ (ns : List Node). with_new_by same_node ns (f onto.number)) is.added
          ∙ sym (grown_append same_node node_law (nodes_in calls first) (flat_map f (numbers (take k targets)))
          (f onto.number))
          ∙ ap (with_new_by same_node (nodes_in calls first))
          (sym (onward_more f targets k onto c.loop-onto-test.true c.onto-item.is));
      held = c.in_ok-add_onward.ensures.held;
      more = is.more ++ c.in_ok-add_onward.ensures.kept.0;
      kept = c.in_ok-add_onward.ensures.kept.1
          ∙ ap (λ (os : List Open). os ++ c.in_ok-add_onward.ensures.kept.0) is.kept
          ∙ append_assoc first.openings.items is.more c.in_ok-add_onward.ensures.kept.0;
    }

pub returns-clause-nodes : goal.returns-clause-nodes
returns-clause-nodes c =
    let notes = c.args.notes.now in
    let calls = notes.calls in
    let first = c.args.self.now in
    let targets = c.locations-onto-items.result.now in
    let all : List ℕ = successors (loads_in c.args.deck.now) notes c.args.from.location.number in
    c.loop-onto.invariant.added
    ∙ ap (λ (places : List ℕ). with_new_by same_node (nodes_in calls first)
    (flat_map (onward notes (node_in calls first c.args.from)) places))
    (ap numbers (take_all c.loop-onto.onto-index targets c.loop-onto-test.false)
    ∙ c.locations-onto-items.ensures.all ∙ c.in_ok-add_successors.ensures
    ∙ ap (λ (places : List ℕ). with_new places all) c.none-targets.ensures)

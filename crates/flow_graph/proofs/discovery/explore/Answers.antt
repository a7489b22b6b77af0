use Rattle.std.proofs.Common.{◌≡◌, ◌<◌, ◌≤◌, ℕ, zero, suc, List, [], ◌∷◌, length, map, Option, Some, None, sym, ap, ◌∙◌, arith}
use Rattle.std.proofs.Common.{inl, inr}
use Rattle.std.specs.Prelude.{slice_get, option_map}
use Rattle.std.proofs.lemmas.Bool.{cases_lt}
use Rattle.std.proofs.lemmas.List.{length-map}
use Rattle.std.proofs.lemmas.Option.{slice_get-map, slice_get_within}
use Rattle.base_words.specs.declared.word.Word.{Word}
use Rattle.read_decks.specs.InDeck.{loads_in, start_in}
use Rattle.base_notes.specs.Allowed.{Notes}
use Rattle.machine_steps.specs.declared.open.Open.{Open}
use Rattle.base_graphs.proofs.Lists.{contains_from_get}
use Rattle.flow_graph.specs.declared.node.Node as held
use Rattle.flow_graph.specs.Executed.{found_after, AreAllNodes}
use Rattle.flow_graph.specs.InNodes.{node_of, nodes_in}
use Rattle.flow_graph.specs.Hops.{Node}
use Rattle.flow_graph.proofs.Orders.{found_next}
use Rattle.flow_graph.proofs.discovery.explore.Goals as goal

some_inside : (xs : List held.Node) (k : ℕ) → k < length xs → slice_get xs k ≡ None → ⊥
some_inside [] k inside none = absurd (omega (arith, inside))
some_inside (x ∷ xs) zero inside none = cc
some_inside (x ∷ xs) (suc k) inside none = some_inside xs k (omega (arith, inside)) none

past_end : (xs : List held.Node) (k : ℕ) → slice_get xs k ≡ None → length xs ≤ k
past_end xs k none =
    elim (cases_lt k (length xs)) [ inl inside ↦ absurd (some_inside xs k inside none) | inr past ↦ past ]

pub add_next-requires-clause-from : goal.add_next-requires-clause-from
add_next-requires-clause-from c =
    c.loop-node.invariant.held.within c.in-Some.node
    (contains_from_get c.loop-node.nodes.nodes.keys.items c.loop-node.turn c.in-Some.node (sym c.in-Some.ensures.value))

pub loop-node-preserved : goal.loop-node-preserved
loop-node-preserved c =
    let notes = c.args.notes.now in
    let loads = loads_in c.args.deck.now in
    let nodes = c.loop-node.nodes in
    let view : held.Node → Node = node_of notes.calls nodes.openings.items in
    let here : slice_get (nodes_in notes.calls nodes) c.loop-node.turn ≡ Some (view c.in-Some.node) =
    slice_get-map view nodes.nodes.keys.items c.loop-node.turn ∙ ap (option_map view) (sym c.in-Some.ensures.value) in
    record {
      after = found_next loads notes (start_in c.args.deck.now) c.loop-node.turn (view c.in-Some.node)
          (nodes_in notes.calls nodes) (nodes_in notes.calls c.add_next.new.self) c.loop-node.invariant.after here
          c.in_ok-add_next.ensures.nodes;
      held = c.in_ok-add_next.ensures.held;
      few = omega (
        arith,
        slice_get_within nodes.nodes.keys.items c.loop-node.turn c.in-Some.node (sym c.in-Some.ensures.value),
        c.len.ensures,
        c.if-len-gt-MOST.false,
      );
    }

-- all nodes are found
whole : (loads : ℕ → Option Word) (notes : Notes) (start : ℕ) (openings : List Open) (keys : List held.Node) (turn : ℕ)
    → found_after loads notes start turn ≡ map (node_of notes.calls openings) keys → slice_get keys turn ≡ None
    → AreAllNodes loads notes start (map (node_of notes.calls openings) keys)
whole loads notes start openings keys turn after none = record {
  count = turn;
  after = after;
  all = omega (arith, past_end keys turn none, length-map keys (node_of notes.calls openings));
}

pub returns : goal.returns
returns c =
    let nodes = c.loop-node.nodes in (
      whole (loads_in c.args.deck.now) c.args.notes.now (start_in c.args.deck.now) nodes.openings.items nodes.nodes.keys.items
          c.loop-node.turn c.loop-node.invariant.after (sym c.in_default.ensures.value),
      c.loop-node.invariant.held,
      omega (
        arith,
        past_end nodes.nodes.keys.items c.loop-node.turn (sym c.in_default.ensures.value),
        length-map nodes.nodes.keys.items (node_of c.args.notes.now.calls nodes.openings.items),
        c.loop-node.invariant.few,
      ),
    )

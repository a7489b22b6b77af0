-- Orders and cycles of indices are those of their nodes.
use Rattle.std.proofs.Common.{◌≡◌, ℕ, suc, ◌+◌, ◌<◌, List, [], ◌∷◌, ◌++◌, length, map, take, drop, get_or, Option, Some, None}
use Rattle.std.proofs.Common.{refl, ap, sym, ◌∙◌, subst, inl, inr, arith}
use Rattle.std.specs.Prelude.{slice_get, Contains}
use Rattle.std.proofs.lemmas.Option.{same_Some, slice_get_within}
use Rattle.std.proofs.lemmas.List.{drop-map, map_push, map-append, take-map, take_more}
use Rattle.std.proofs.lemmas.List.Elements.{filter_map-append}
use Rattle.base_words.specs.declared.location.Location.{Location}
use Rattle.base_words.specs.declared.word.Word.{Word}
use Rattle.base_notes.specs.Allowed.{Notes}
use Rattle.base_graphs.specs.Graph.{AreDifferent, GoOn, Leads, LeadRound, IsClosed, IsCycle, IsTopologicalOrder}
use Rattle.base_graphs.proofs.Lists.{contains_at, contains_cases, contains_here, contains_none, contains_there, one_place}
use Rattle.base_graphs.proofs.Lists.{contains_from_get}
use Rattle.flow_graph.specs.Accepted.{IsFreeCycle, IsFreeLink}
use Rattle.flow_graph.specs.Executed.{AreAllNodes}
use Rattle.flow_graph.specs.Hops.{Node}
use Rattle.flow_graph.specs.Turned.{IsTurned}
use Rattle.flow_graph.proofs.Founds.{numbers}
use Rattle.flow_graph.proofs.Turns.{closed_from, different_from, members_turned, smallest_turned}
use Rattle.flow_graph.proofs.Orders.{has_reached, node_at, reached_different, reached_next, reached_only}
use Rattle.flow_acceptance.specs.Free.{those_at, AreFreeRows, IsNodeOrder}
use Rattle.flow_acceptance.proofs.FreeRows.{some_at}

module _ {X : Type 0} (all : List X) where
  -- those at indices, the first of which is there
  pub those_first : (k : ℕ) (x : X) (ks : List ℕ) → slice_get all k ≡ Some x
      → those_at all (k ∷ ks) ≡ x ∷ those_at all ks
  those_first k x ks at = rw at refl

  pub those_there : (ks : List ℕ) (k : ℕ) (x : X) → Contains ks k → slice_get all k ≡ Some x → Contains (those_at all ks) x
  those_there [] k x there at = absurd (contains_none k there)
  those_there (j ∷ ks) k x there at = elim (contains_cases j k ks there) [
    | inl same ↦ subst (λ xs. Contains xs x) (sym (those_first j x ks (ap (slice_get all) same ∙ at)))
        (contains_here x (those_at all ks))
    | inr behind ↦ go (slice_get all j) refl (those_there ks k x behind at)
  ]
    where
      go : (one : Option X) → slice_get all j ≡ one → Contains (those_at all ks) x → Contains (those_at all (j ∷ ks)) x
      go None e later = rw e later
      go (Some y) e later = subst (λ xs. Contains xs x) (sym (those_first j y ks e)) (contains_there y x (those_at all ks) later)

  pub those_from : (ks : List ℕ) (x : X) → Contains (those_at all ks) x
      → (k : ℕ) × Contains ks k × (slice_get all k ≡ Some x)
  those_from [] x there = absurd (contains_none x there)
  those_from (j ∷ ks) x there = go (slice_get all j) refl (λ later. deeper (those_from ks x later))
    where
      deeper : (k : ℕ) × Contains ks k × (slice_get all k ≡ Some x)
          → (k : ℕ) × Contains (j ∷ ks) k × (slice_get all k ≡ Some x)
      deeper found = (found.0, contains_there j found.0 ks found.1, found.2)

      go : (one : Option X) → slice_get all j ≡ one
          → (Contains (those_at all ks) x → (k : ℕ) × Contains (j ∷ ks) k × (slice_get all k ≡ Some x))
          → (k : ℕ) × Contains (j ∷ ks) k × (slice_get all k ≡ Some x)
      go None e others = others (rw e at there)
      go (Some y) e others = elim (contains_cases y x (those_at all ks) (subst (λ xs. Contains xs x) (those_first j y ks e) there)) [
        | inl same ↦ (j, contains_here j ks, e ∙ ap Some same)
        | inr behind ↦ others behind
      ]

  pub those_different : (ks : List ℕ) → AreDifferent all → AreDifferent ks → AreDifferent (those_at all ks)
  those_different [] different d = tt
  those_different (j ∷ ks) different d = go (slice_get all j) refl (those_different ks different d.1)
    where
      go : (one : Option X) → slice_get all j ≡ one → AreDifferent (those_at all ks) → AreDifferent (those_at all (j ∷ ks))
      go None e later = rw e later
      go (Some y) e later = subst AreDifferent (sym (those_first j y ks e)) (
        λ there.
            let found = those_from ks y there in
            d.0 (subst (λ (n : ℕ). Contains ks n) (one_place all found.0 j y different found.2 e) found.1),
        later,
      )

module _ (loads : ℕ → Option Word) (notes : Notes) (nodes : List Node) (row : ℕ → List ℕ)
    (rows : AreFreeRows loads notes nodes row) where
  -- an edge of indices is one of nodes
  edge_free : (k next : ℕ) (from : Node) → slice_get nodes k ≡ Some from → Contains (row k) next
      → (onto : Node) × (slice_get nodes next ≡ Some onto) × IsFreeLink loads notes from onto
  edge_free k next from at there = (rows k from at).free next there

  round_free : (first k : ℕ) (one from : Node) (ks : List ℕ) → slice_get nodes first ≡ Some one
      → slice_get nodes k ≡ Some from → LeadRound (Leads row) first k ks
      → LeadRound (IsFreeLink loads notes) one from (those_at nodes ks)
  round_free first k one from [] begins at round =
      let edge = edge_free k first from at round in
      subst (IsFreeLink loads notes from) (same_Some edge.0 one (sym edge.1 ∙ begins)) edge.2
  round_free first k one from (next ∷ ks) begins at round =
      let edge = edge_free k next from at round.0 in
      subst (λ (xs : List Node). LeadRound (IsFreeLink loads notes) one from xs)
      (sym (those_first nodes next edge.0 ks edge.1))
      (edge.2, round_free first next one edge.0 ks begins edge.1 round.1)

  closed_free : (ks : List ℕ) → ((k : ℕ) → Contains ks k → k < length nodes) → IsClosed (Leads row) ks
      → IsClosed (IsFreeLink loads notes) (those_at nodes ks)
  closed_free [] within closed = absurd closed
  closed_free (k ∷ ks) within closed =
      let at = some_at nodes k (within k (contains_here k ks)) in
      subst (IsClosed (IsFreeLink loads notes)) (sym (those_first nodes k at.0 ks at.1))
      (round_free k k at.0 at.0 ks at.1 at.1 closed)

  module _ (start : ℕ) (are : AreAllNodes loads notes start nodes) where
    go_on_free : (ks : List ℕ) → ((k : ℕ) → Contains ks k → k < length nodes) → GoOn (Leads row) ks
        → GoOn (IsFreeLink loads notes) (those_at nodes ks)
    go_on_free [] within onward = tt
    go_on_free (k ∷ ks) within onward =
        let at = some_at nodes k (within k (contains_here k ks)) in
        subst (GoOn (IsFreeLink loads notes)) (sym (those_first nodes k at.0 ks at.1)) (
          λ next free.
              let reached = reached_next loads notes start at.0 next
              (reached_only loads notes start nodes are at.0 (contains_from_get nodes k at.0 at.1)) free.0 in
              let found = contains_at nodes next (has_reached loads notes start nodes are next reached) in
              those_there nodes ks found.0 next
              (onward.0 found.0 ((rows k at.0 at.1).all found.0 next found.1 free)) found.1,
          go_on_free ks (λ one there. within one (contains_there k one ks there)) onward.1,
        )

    pub order_free : (size : ℕ) (order : List ℕ) → size ≡ length nodes → IsTopologicalOrder row size order
        → IsNodeOrder loads notes nodes (those_at nodes order)
    order_free size order long is =
        let within : (k : ℕ) → Contains order k → k < length nodes =
        λ k there. omega (arith, is.within k there, long) in
        record {
          all = λ node there.
              let found = contains_at nodes node there in
              those_there nodes order found.0 node
              (is.all found.0 (omega (arith, slice_get_within nodes found.0 node found.1, long))) found.1;
          only = λ node there.
              let found = those_from nodes order node there in contains_from_get nodes found.0 node found.2;
          different = those_different nodes order (reached_different loads notes start nodes are) is.distinct;
          onward = go_on_free order within is.onward;
        }

    -- The cycle of indices is one of nodes, turned.
    pub cycle_free : (size : ℕ) (cycle turned : List ℕ) → size ≡ length nodes → IsCycle row size cycle
        → IsTurned (map (λ (node : Node). node.place) (those_at nodes cycle)) turned → IsFreeCycle loads notes start turned
    cycle_free size cycle turned long is t =
        let round : List Node = those_at nodes cycle in
        let mid = node_at round t.place t.member.0 t.member.1 in
        record {
          nodes = drop t.place round ++ take t.place round;
          within = λ node there.
              let found = those_from nodes cycle node (members_turned round t.place node there) in
              reached_only loads notes start nodes are node (contains_from_get nodes found.0 node found.2);
          closed = closed_from (IsFreeLink loads notes) round t.place mid.0 mid.1
              (closed_free cycle (λ k there. omega (arith, is.within k there, long)) is.closed);
          different = different_from round t.place
              (those_different nodes cycle (reached_different loads notes start nodes are) is.distinct);
          places = places_turned round t.place ∙ sym t.parts;
          smallest = smallest_turned (map (λ (node : Node). node.place) round) turned t;
        }
      where
        places_turned : (round : List Node) (k : ℕ)
            → map (λ (node : Node). node.place) (drop k round ++ take k round)
            ≡ drop k (map (λ (node : Node). node.place) round) ++ take k (map (λ (node : Node). node.place) round)
        places_turned round k =
            map-append (λ (node : Node). node.place) (drop k round) (take k round)
            ∙ ap (λ (ns : List ℕ). ns ++ map (λ (node : Node). node.place) (take k round))
            (sym (drop-map (λ (node : Node). node.place) k round))
            ∙ ap (λ (ns : List ℕ). drop k (map (λ (node : Node). node.place) round) ++ ns)
            (sym (take-map (λ (node : Node). node.place) k round))

-- the locations of one more node
pub locations_more : (nodes : List Node) (locations : List Location) (indices : List ℕ) (k : ℕ) (node : Node)
    (location : Location) → k < length indices → slice_get nodes (get_or indices k 0) ≡ Some node
    → location.number ≡ node.place
    → numbers locations ≡ map (λ (one : Node). one.place) (those_at nodes (take k indices))
    → numbers (locations ++ location ∷ []) ≡ map (λ (one : Node). one.place) (those_at nodes (take (k + 1) indices))
locations_more nodes locations indices k node location inside at place before =
    map_push (λ (one : Location). one.number) locations location
    ∙ ap (λ (ns : List ℕ). ns ++ location.number ∷ []) before
    ∙ ap (λ (n : ℕ). map (λ (one : Node). one.place) (those_at nodes (take k indices)) ++ n ∷ []) place
    ∙ sym (map_push (λ (one : Node). one.place) (those_at nodes (take k indices)) node)
    ∙ ap (map (λ (one : Node). one.place))
    (ap (λ (xs : List Node). those_at nodes (take k indices) ++ xs) (sym (those_first nodes (get_or indices k 0) node [] at))
    ∙ sym (filter_map-append (slice_get nodes) (take k indices) (get_or indices k 0 ∷ []))
    ∙ ap (those_at nodes) (sym (take_more indices k 0 inside)))

-- a cycle has a member
pub cycle_some : (row : ℕ → List ℕ) (nodes : List ℕ) → IsClosed (Leads row) nodes → 0 < length nodes
cycle_some row [] closed = absurd closed
cycle_some row (node ∷ nodes) closed = omega arith

-- those at indices that are there are as many
pub those_long : {X : Type 0} (all : List X) (ks : List ℕ) → ((k : ℕ) → Contains ks k → k < length all)
    → length (those_at all ks) ≡ length ks
those_long all [] within = refl
those_long all (k ∷ ks) within =
    let at = some_at all k (within k (contains_here k ks)) in
    ap length (those_first all k at.0 ks at.1)
    ∙ ap suc (those_long all ks (λ j there. within j (contains_there k j ks there)))

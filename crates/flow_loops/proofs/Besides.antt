-- Rows without the edges of some locations' edges: an order of them shows that these edges are enough, and
-- a cycle that they aren't.
use Rattle.std.proofs.Common.{◌≡◌, ℕ, suc, zero, ◌+◌, ◌<◌, Bool, true, false, eqb, List, ◌∷◌, ◌++◌, length, map, []}
use Rattle.std.proofs.Common.{take, refl}
use Rattle.std.proofs.Common.{get_or, Option, Some, ap, sym, ◌∙◌, subst, inl, inr, ◌⊎◌, arith}
use Rattle.std.specs.Prelude.{slice_get, slice_index, ◌&&◌, Contains, Vec}
use Rattle.std.specs.declared.alloc.Global.{Global}
use Rattle.std.proofs.lemmas.Bool.{cases_lt}
use Rattle.std.proofs.lemmas.Bool.Decides.{Decides-eqb, eqb_tells}
use Rattle.std.proofs.lemmas.List.{map_more}
use Rattle.std.proofs.lemmas.List.Elements.{Contains-append_left, Contains-push, Contains-push_cases}
use Rattle.std.proofs.lemmas.Option.{get_or_from_slice_get, same_Some, slice_get_within}
use Rattle.base_words.specs.declared.word.Word.{Word}
use Rattle.base_notes.specs.declared.notes.edge.Edge.{Edge}
use Rattle.base_notes.specs.Allowed.{Notes}
use Rattle.base_notes.specs.EdgeOf.{edge_of}
use Rattle.base_notes.specs.Edges.{leads}
use Rattle.base_graphs.specs.Graph.{IsCycle, IsTopologicalOrder, LeadRound, Leads}
use Rattle.base_graphs.specs.Rows.{targets_in}
use Rattle.base_graphs.proofs.Lists.{contains_at, contains_from_get, contains_here, contains_none}
use Rattle.flow_graph.specs.Executed.{AreAllNodes}
use Rattle.flow_graph.specs.Hops.{Node}
use Rattle.flow_graph.proofs.Orders.{has_reached, place_at, reached_next, reached_only}
use Rattle.flow_acceptance.specs.Free.{those_at, AreFreeRows}
use Rattle.flow_acceptance.proofs.FreeRows.{some_at}
use Rattle.flow_acceptance.proofs.Heights.{no_round}
use Rattle.flow_acceptance.proofs.Translations.{those_first}
use Rattle.flow_loops.specs.Loops.{IsFreeBeside}
use Rattle.flow_loops.specs.Spared.{edge_at, AreEnough, IsRowBeside, LackSome}

-- whether an edge leads so
pub leads_cases : (from onto : ℕ) (edge : ℕ × ℕ) → ((leads from onto edge ≡ true) × ((from, onto) ≡ edge))
    ⊎ ((leads from onto edge ≡ false) × ((from, onto) ≡ edge → ⊥))
leads_cases from onto edge = elim (eqb_tells edge.0 from) [
  | inl one ↦ (elim (eqb_tells edge.1 onto) [
    | inl other ↦ inl (
      ap (λ (b : Bool). b && eqb edge.1 onto) one.0 ∙ other.0,
      ap (λ (n : ℕ). (n, onto)) (sym one.1) ∙ ap (λ (n : ℕ). (edge.0, n)) (sym other.1),
    )
    | inr other ↦ inr (
      ap (λ (b : Bool). b && eqb edge.1 onto) one.0 ∙ other.0,
      λ same. other.1 (sym (ap (λ (pair : ℕ × ℕ). pair.1) same)),
    )
  ])
  | inr one ↦ inr (
    ap (λ (b : Bool). b && eqb edge.1 onto) one.0,
    λ same. one.1 (sym (ap (λ (pair : ℕ × ℕ). pair.0) same)),
  )
]

pub leads_same : (from onto : ℕ) (edge : ℕ × ℕ) → leads from onto edge ≡ true → (from, onto) ≡ edge
leads_same from onto edge so = elim (leads_cases from onto edge) [
  | inl is ↦ is.1
  | inr other ↦ (let clash : ◌≡◌ {A = Bool} true false = sym so ∙ other.0 in cc)
]

pub leads_other : (from onto : ℕ) (edge : ℕ × ℕ) → leads from onto edge ≡ false → (from, onto) ≡ edge → ⊥
leads_other from onto edge never same = elim (leads_cases from onto edge) [
  | inl is ↦ (let clash : ◌≡◌ {A = Bool} true false = sym is.0 ∙ never in cc)
  | inr other ↦ other.1 same
]

-- the edges so far and this one
pub edges_taken : (edges : List Edge) (k : ℕ) (edge : Edge) → k < length edges → edge ≡ get_or edges k edge
    → map edge_of (take (k + 1) edges) ≡ map edge_of (take k edges) ++ edge_of edge ∷ []
edges_taken edges k edge inside at =
    map_more edge_of edges k edge inside
    ∙ ap (λ (one : Edge). map edge_of (take k edges) ++ edge_of one ∷ []) (sym at)

module _ (places : List ℕ) (edges : List (ℕ × ℕ)) (node : ℕ) (row rest : List ℕ) (next : ℕ)
    (before : IsRowBeside places edges node row rest) where
  -- one more node, by an edge that is one of these
  pub beside_there : Contains edges (edge_at places node next)
      → IsRowBeside places edges node (row ++ next ∷ []) rest
  beside_there is = record {
    kept = λ other there. Contains-append_left row (next ∷ []) other (before.kept other there);
    none = before.none;
    all = λ other there beside. elim (Contains-push_cases row next other there) [
      | inl was ↦ before.all other was beside
      | inr same ↦ absurd (beside (subst (λ (n : ℕ). Contains edges (edge_at places node n)) same is))
    ];
  }

  -- one more by another edge
  pub beside_more : ¬ Contains edges (edge_at places node next)
      → IsRowBeside places edges node (row ++ next ∷ []) (rest ++ next ∷ [])
  beside_more none = record {
    kept = λ other there. elim (Contains-push_cases rest next other there) [
      | inl was ↦ Contains-append_left row (next ∷ []) other (before.kept other was)
      | inr same ↦ subst (λ (n : ℕ). Contains (row ++ next ∷ []) n) same (Contains-push row next)
    ];
    none = λ other there. elim (Contains-push_cases rest next other there) [
      | inl was ↦ before.none other was
      | inr same ↦ subst (λ (n : ℕ). ¬ Contains edges (edge_at places node n)) same none
    ];
    all = λ other there beside. elim (Contains-push_cases row next other there) [
      | inl was ↦ Contains-append_left rest (next ∷ []) other (before.all other was beside)
      | inr same ↦ subst (λ (n : ℕ). Contains (rest ++ next ∷ []) n) same (Contains-push rest next)
    ];
  }

-- the rows with one more
row_before : (rows : List (Vec ℕ Global)) (more : Vec ℕ Global) (k : ℕ) → k < length rows
    → targets_in rows k ≡ targets_in (rows ++ more ∷ []) k
row_before [] more k inside = absurd (omega (arith, inside))
row_before (one ∷ rows) more zero inside = refl
row_before (one ∷ rows) more (suc k) inside = row_before rows more k (omega (arith, inside))

row_last : (rows : List (Vec ℕ Global)) (more : Vec ℕ Global) (k : ℕ) → k ≡ length rows
    → more.items ≡ targets_in (rows ++ more ∷ []) k
row_last [] more zero last = refl
row_last [] more (suc k) last = absurd (omega (arith, last))
row_last (one ∷ rows) more zero last = absurd (omega (arith, last))
row_last (one ∷ rows) more (suc k) last = row_last rows more k (omega (arith, last))

-- what is so of each row so far, and of one more
pub rows_pushed : (Says : ℕ → List ℕ → Type 0) (rows : List (Vec ℕ Global)) (more : Vec ℕ Global) (k : ℕ)
    → length rows ≡ k → ((node : ℕ) → node < k → Says node (targets_in rows node)) → Says k more.items
    → (node : ℕ) → node < k + 1 → Says node (targets_in (rows ++ more ∷ []) node)
rows_pushed Says rows more k long before last node below = elim (cases_lt node k) [
  | inl early ↦ subst (Says node) (row_before rows more node (omega (arith, early, long))) (before node early)
  | inr late ↦ (let same : node ≡ k = omega (arith, below, late) in
      subst (Says node) (row_last rows more node (omega (arith, same, long)))
      (subst (λ (n : ℕ). Says n more.items) (sym same) last))
]

-- past their end there is none
pub row_none : (rows : List (Vec ℕ Global)) (k next : ℕ) → Contains (targets_in rows k) next → k < length rows
row_none [] k next there = absurd (contains_none next there)
row_none (one ∷ rows) zero next there = omega arith
row_none (one ∷ rows) (suc k) next there = omega (arith, row_none rows k next there)

module _ (loads : ℕ → Option Word) (notes : Notes) (start : ℕ) (nodes : List Node) (row rest : ℕ → List ℕ) (size : ℕ)
    (edges : List (ℕ × ℕ)) (are : AreAllNodes loads notes start nodes) (rows : AreFreeRows loads notes nodes row)
    (long : size ≡ length nodes)
    (beside : (k : ℕ) → k < size → IsRowBeside (map (λ (node : Node). node.place) nodes) edges k (row k) (rest k)) where
  abbrev places : List ℕ
  places = map (λ (node : Node). node.place) nodes

  place_is : (k : ℕ) (node : Node) → slice_get nodes k ≡ Some node → slice_index places k ≡ node.place
  place_is k node at = get_or_from_slice_get places k node.place 0 (place_at nodes k node at)

  edge_is : (k j : ℕ) (from onto : Node) → slice_get nodes k ≡ Some from → slice_get nodes j ≡ Some onto
      → edge_at places k j ≡ (from.place, onto.place)
  edge_is k j from onto begins ends =
      ap (λ (n : ℕ). (n, slice_index places j)) (place_is k from begins)
      ∙ ap (λ (n : ℕ). (from.place, n)) (place_is j onto ends)

  inside : (k : ℕ) (node : Node) → slice_get nodes k ≡ Some node → k < size
  inside k node at = omega (arith, slice_get_within nodes k node at, long)

  -- an edge that is left is one of nodes beside these
  edge_beside : (k j : ℕ) (from : Node) → slice_get nodes k ≡ Some from → Contains (rest k) j
      → (onto : Node) × (slice_get nodes j ≡ Some onto) × IsFreeBeside loads notes edges from onto
  edge_beside k j from at there =
      let of = beside k (inside k from at) in
      let free = (rows k from at).free j (of.kept j there) in (
        free.0,
        free.1,
        (
          free.2,
          subst (λ (pair : ℕ × ℕ). ¬ Contains edges pair) (edge_is k j from free.0 at free.1) (of.none j there),
        ),
      )

  -- and an edge of nodes beside these is left
  edge_left : (k j : ℕ) (from onto : Node) → slice_get nodes k ≡ Some from → slice_get nodes j ≡ Some onto
      → IsFreeBeside loads notes edges from onto → Contains (rest k) j
  edge_left k j from onto begins ends free =
      (beside k (inside k from begins)).all j ((rows k from begins).all j onto ends free.0)
      (subst (λ (pair : ℕ × ℕ). ¬ Contains edges pair) (sym (edge_is k j from onto begins ends)) free.1)

  round_nodes : (first k : ℕ) (one from : Node) (ks : List ℕ) → slice_get nodes first ≡ Some one
      → slice_get nodes k ≡ Some from → LeadRound (Leads rest) first k ks
      → LeadRound (IsFreeBeside loads notes edges) one from (those_at nodes ks)
  round_nodes first k one from [] begins at round =
      let edge = edge_beside k first from at round in
      subst (IsFreeBeside loads notes edges from) (same_Some edge.0 one (sym edge.1 ∙ begins)) edge.2
  round_nodes first k one from (next ∷ ks) begins at round =
      let edge = edge_beside k next from at round.0 in
      subst (λ (xs : List Node). LeadRound (IsFreeBeside loads notes edges) one from xs)
      (sym (those_first nodes next edge.0 ks edge.1))
      (edge.2, round_nodes first next one edge.0 ks begins edge.1 round.1)

  -- where a cycle is left, the edges aren't enough
  pub cycle_lacks : (cycle : List ℕ) → IsCycle rest size cycle → LackSome loads notes start edges
  cycle_lacks [] is = absurd is.closed
  cycle_lacks (k ∷ ks) is =
      let below : k < length nodes = omega (arith, is.within k (contains_here k ks), long) in
      let at = some_at nodes k below in
      record {
        first = at.0;
        others = those_at nodes ks;
        within = reached_only loads notes start nodes are at.0 (contains_from_get nodes k at.0 at.1);
        closed = round_nodes k k at.0 at.0 ks at.1 at.1 is.closed;
      }

  round_left : (head k : ℕ) (first from : Node) (others : List Node) → slice_get nodes head ≡ Some first
      → slice_get nodes k ≡ Some from → LeadRound (IsFreeBeside loads notes edges) first from others
      → (ks : List ℕ) × LeadRound (Leads rest) head k ks
  round_left head k first from [] heads begins round = ([], edge_left k head from first begins heads round)
  round_left head k first from (onto ∷ others) heads begins round =
      let next : (j : ℕ) × (slice_get nodes j ≡ Some onto) =
      contains_at nodes onto (has_reached loads notes start nodes are onto
      (reached_next loads notes start from onto
      (reached_only loads notes start nodes are from (contains_from_get nodes k from begins)) round.0.0.0)) in
      let more = round_left head next.0 first onto others heads next.1 round.1 in
      (next.0 ∷ more.0, (edge_left k next.0 from onto begins next.1 round.0, more.1))

  -- where an order is left in which every edge goes on, they are
  pub order_enough : (order : List ℕ) → IsTopologicalOrder rest size order → AreEnough loads notes start edges
  order_enough order is first others is_node closed =
      let at : (k : ℕ) × (slice_get nodes k ≡ Some first) =
      contains_at nodes first (has_reached loads notes start nodes are first is_node) in
      let round = round_left at.0 at.0 first first others at.1 at.1 closed in
      no_round eqb Decides-eqb (Leads rest) order at.0 round.0 is.distinct is.onward
      (is.all at.0 (inside at.0 first at.1)) round.1

-- Of fewest_first: each edge is held with a count, inside how many loops of the edges its own
-- stands. Sorting moves edges and counts together, so the edges are the same, and are in the order
-- of these counts.
use Rattle.std.proofs.Common.{◌≡◌, ℕ, List, map, ap, ◌∙◌, sym, subst}
use Rattle.std.specs.Prelude.{All, IsPermutation}
use Rattle.std.specs.List.Sorted.{IsNonDecreasingBy}
use Rattle.std.proofs.Common.{rules}
use Rattle.std.proofs.lemmas.List.Sorted.{All-permutation, IsNonDecreasingBy-from_sort_by_key, IsPermutation-map}
use Rattle.std.proofs.lemmas.Result.{IfOk-weaker}
use Rattle.std.proofs.lemmas.Simd.{map-map}
use Rattle.base_notes.specs.declared.notes.edge.Edge.{Edge}
use Rattle.base_notes.specs.EdgeOf.{edge_of}
use Rattle.check_deck.specs.declared.loops.Counted.{Counted}
use Rattle.check_deck.specs.FindingsOf.{IsInsideIn}
use Rattle.check_deck.specs.Insides.{AreFewestFirst, AreSoMany}
use Rattle.check_deck.proofs.Rearranged.{sorted_outer}
use Rattle.check_deck.proofs.loops.fewest_first.Goals as goal

abbrev edge_in : Counted → ℕ × ℕ
edge_in one = edge_of one.edge

-- the edges of what was sorted
edges_same : (before sorted : List Counted) (edges : List Edge) → before ≡ sorted
    → edges ≡ map (λ (one : Counted). one.edge) before → map edge_of edges ≡ map edge_in sorted
edges_same before sorted edges same are =
    ap (map edge_of) are ∙ map-map edge_of (λ (one : Counted). one.edge) before ∙ ap (map edge_in) same

-- they are those that were counted
edges_moved : (edges : List Edge) (counted sorted : List Counted) → map edge_in counted ≡ map edge_of edges
    → IsPermutation counted sorted → IsPermutation (map edge_of edges) (map edge_in sorted)
edges_moved edges counted sorted same moved =
    subst (λ (all : List (ℕ × ℕ)). IsPermutation all (map edge_in sorted)) same (IsPermutation-map edge_in counted sorted moved)

pub returns-clause-same : goal.returns-clause-same
returns-clause-same c =
    let edges = c.args.edges.now in
    let sorted = c.sort_by_key.new.self.items in
    let moved : IsPermutation (map edge_of edges) (map edge_in sorted) =
    edges_moved edges c.in_ok-counted.counted.items sorted c.in_ok-counted.ensures.same c.sort_by_key.ensures.permutation in
    IfOk-weaker c.edges_of.result (λ told. told.items ≡ map (λ (one : Counted). one.edge) c.deref.result.now)
    (λ told. IsPermutation (map edge_of edges) (map edge_of told.items))
    (λ told are. subst (IsPermutation (map edge_of edges))
    (sym (edges_same c.deref.result.now sorted told.items c.deref.ensures.value are)) moved) c.edges_of.ensures

pub returns-clause-sorted : goal.returns-clause-sorted
returns-clause-sorted c =
    let edges = c.args.edges.now in
    let flow = c.args.nesting.now.flow.now in
    let counted = c.in_ok-counted.counted.items in
    let sorted = c.sort_by_key.new.self.items in
    let P : Counted → Type 0 = λ one. AreSoMany (λ outer. IsInsideIn flow outer (edge_of one.edge)) (map edge_of edges) one.many in
    let moved : IsPermutation (map edge_of edges) (map edge_in sorted) =
    edges_moved edges counted sorted c.in_ok-counted.ensures.same c.sort_by_key.ensures.permutation in
    let counts : All P sorted =
    All-permutation P counted sorted c.sort_by_key.ensures.permutation c.in_ok-counted.ensures.counts in
    let rising : IsNonDecreasingBy (λ (one : Counted). one.many) sorted =
    IsNonDecreasingBy-from_sort_by_key (λ (one : Counted). one.many) sorted c.in_ok-sort_by_key.ensures.sorted
    (λ a r q k. search rules) in
    IfOk-weaker c.edges_of.result (λ told. told.items ≡ map (λ (one : Counted). one.edge) c.deref.result.now)
    (λ told. AreFewestFirst (IsInsideIn flow) (map edge_of told.items))
    (λ told are. subst (AreFewestFirst (IsInsideIn flow))
    (sym (edges_same c.deref.result.now sorted told.items c.deref.ensures.value are))
    (sorted_outer (IsInsideIn flow) edge_in (λ one. one.many) (map edge_of edges) sorted moved counts rising))
    c.edges_of.ensures

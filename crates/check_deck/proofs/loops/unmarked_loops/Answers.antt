-- Of unmarked_loops: the edges close the loops. With those of the notes' marks they are more than 64,
-- and then none is said to stand inside another; or they are put in order and each has its number.
use Rattle.std.proofs.Common.{◌≡◌, ℕ, ◌+◌, ◌≤◌, ◌<◌, List, map, length, ap, sym, ◌∙◌, subst, inl, inr, arith}
use Rattle.std.specs.Prelude.{IsPermutation}
use Rattle.std.proofs.lemmas.Bool.{cases_lt, false≢true}
use Rattle.std.proofs.lemmas.List.{length-map}
use Rattle.std.proofs.lemmas.List.Sorted.{length_permutation}
use Rattle.std.proofs.lemmas.Result.{IfOk-weaker}
use Rattle.std.proofs.lemmas.Simd.{map-map}
use Rattle.read_decks.specs.InDeck.{loads_in, start_in}
use Rattle.base_notes.specs.declared.notes.edge.Edge.{Edge}
use Rattle.base_notes.specs.EdgeOf.{edge_of}
use Rattle.flow_graph.specs.Flow.{nodes_of}
use Rattle.flow_loops.specs.Loops.{AreClosing}
use Rattle.check_findings.specs.Finding.{Finding, closes}
use Rattle.check_findings.specs.FindingOf.{seen}
use Rattle.check_findings.specs.declared.within.Within.TheVariants as within
use Rattle.check_findings.specs.Edges.{marked_edges}
use Rattle.check_deck.specs.FindingsOf.{IsInsideIn}
use Rattle.check_deck.specs.Insides.{AreFewestFirst, AreLoops, AreToldApart}
use Rattle.check_deck.proofs.Rearranged.{closing_moved}
use Rattle.check_deck.proofs.loops.unmarked_loops.Goals as goal

pub returns-then-are_many : goal.returns-then-are_many
returns-then-are_many c =
    let flow = c.args.flow.now in
    let loads = loads_in flow.deck.now in
    let notes = flow.notes.now in
    let start = start_in flow.deck.now in
    let edges = c.in_ok-edges.edges.items in
    let marked = c.in_ok-marked.marked.items in
    let alone : ℕ × ℕ → Finding = λ edge. closes edge within.Run in
    let many : 64 < length (marked_edges notes) + length (map edge_of edges) =
    omega (
      arith,
      c.are_many.ensures.0 c.if-are_many.true,
      c.in_ok-edges.edges.ok.0,
      c.in_ok-marked.marked.ok.0,
      c.len.ensures,
      c.len-2.ensures,
      ap length c.in_ok-marked.ensures,
      length-map marked edge_of,
      length-map edges edge_of,
    ) in
    IfOk-weaker c.loops_alone.result
    (λ loops. map seen loops.items ≡ map (λ (edge : Edge). alone (edge_of edge)) c.deref.result.now)
    (λ loops. (all : List (ℕ × ℕ)) × AreClosing loads notes start all
    × AreLoops loads notes start (nodes_of flow) all (map seen loops.items))
    (λ loops told. (
      map edge_of edges,
      c.in_ok-edges.ensures,
      inr (
        many,
        told ∙ ap (map (λ (edge : Edge). alone (edge_of edge))) c.deref.ensures.value ∙ sym (map-map alone edge_of edges),
      ),
    )) c.loops_alone.ensures

pub returns : goal.returns
returns c =
    let flow = c.args.flow.now in
    let loads = loads_in flow.deck.now in
    let notes = flow.notes.now in
    let start = start_in flow.deck.now in
    let edges = c.in_ok-edges.edges.items in
    let marked = c.in_ok-marked.marked.items in
    let not_many : c.len.result + c.len-2.result ≤ 64 =
    elim (cases_lt 64 (c.len.result + c.len-2.result)) [
      | inl many ↦ absurd (false≢true (sym c.if-are_many.false ∙ c.are_many.ensures.1 many))
      | inr few ↦ few
    ] in
    let few : length (marked_edges notes) + length (map edge_of edges) ≤ 64 =
    omega (
      arith,
      not_many,
      c.in_ok-edges.edges.ok.0,
      c.in_ok-marked.marked.ok.0,
      c.len.ensures,
      c.len-2.ensures,
      ap length c.in_ok-marked.ensures,
      length-map marked edge_of,
      length-map edges edge_of,
    ) in
    let still : (sorted : List (ℕ × ℕ)) → IsPermutation (map edge_of edges) sorted
    → length (marked_edges notes) + length sorted ≤ 64 =
    λ sorted moved. omega (arith, few, length_permutation (map edge_of edges) sorted moved) in
    IfOk-weaker c.loops_in_order.result
    (λ loops. (sorted : List (ℕ × ℕ)) × IsPermutation (map edge_of c.deref-3.result.now) sorted
    × AreFewestFirst (IsInsideIn flow) sorted × AreToldApart (IsInsideIn flow) notes sorted (map seen loops.items))
    (λ loops. (all : List (ℕ × ℕ)) × AreClosing loads notes start all
    × AreLoops loads notes start (nodes_of flow) all (map seen loops.items))
    (λ loops told.
    let moved : IsPermutation (map edge_of edges) told.0 =
    subst (λ (xs : List Edge). IsPermutation (map edge_of xs) told.0) c.deref-3.ensures.value told.1 in (
      told.0,
      closing_moved loads notes start (map edge_of edges) told.0 moved c.in_ok-edges.ensures,
      inl (still told.0 moved, told.2, told.3),
    )) c.loops_in_order.ensures

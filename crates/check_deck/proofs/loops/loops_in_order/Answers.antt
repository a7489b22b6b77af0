-- Of loops_in_order: what is known is of the same flow graph.
use Rattle.std.proofs.Common.{ℕ, List, map, subst}
use Rattle.std.specs.Prelude.{IsPermutation}
use Rattle.std.proofs.lemmas.Result.{IfOk-weaker}
use Rattle.base_notes.specs.declared.notes.edge.Edge.{Edge}
use Rattle.base_notes.specs.EdgeOf.{edge_of}
use Rattle.flow_graph.specs.declared.flow_graph.Flow.{Flow}
use Rattle.check_findings.specs.FindingOf.{seen}
use Rattle.check_deck.specs.FindingsOf.{IsInsideIn}
use Rattle.check_deck.specs.Insides.{AreFewestFirst, AreToldApart}
use Rattle.check_deck.proofs.loops.loops_in_order.Goals as goal

pub returns : goal.returns
returns c =
    let flow = c.args.flow.now in
    let known = c.in_ok-nesting.nesting.flow.now in
    let sorted = c.in_ok-sorted.sorted.items in
    IfOk-weaker c.loops_sharing_marks.result
    (λ loops. AreToldApart (IsInsideIn known) known.notes.now (map edge_of c.deref-2.result.now) (map seen loops.items))
    (λ loops. (all : List (ℕ × ℕ)) × IsPermutation (map edge_of c.args.edges.now) all × AreFewestFirst (IsInsideIn flow) all
    × AreToldApart (IsInsideIn flow) flow.notes.now all (map seen loops.items))
    (λ loops told. (
      map edge_of sorted,
      c.in_ok-sorted.ensures.same,
      subst (λ (f : Flow). AreFewestFirst (IsInsideIn f) (map edge_of sorted)) c.in_ok-nesting.ensures.flow
          c.in_ok-sorted.ensures.sorted,
      subst (λ (f : Flow). AreToldApart (IsInsideIn f) f.notes.now (map edge_of sorted) (map seen loops.items))
          c.in_ok-nesting.ensures.flow
          (subst (λ (xs : List Edge). AreToldApart (IsInsideIn known) known.notes.now (map edge_of xs) (map seen loops.items))
          c.deref-2.ensures.value told),
    )) c.loops_sharing_marks.ensures

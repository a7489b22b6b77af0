-- Of loops_round: the count is how many edges so far have a loop inside which the other stands. One
-- more edge adds one to it, or nothing.
use Rattle.std.proofs.Common.{◌≡◌, ℕ, ◌+◌, List, true, false, sym, ◌∙◌, subst, map, take, arith}
use Rattle.base_notes.specs.EdgeOf.{edge_of}
use Rattle.check_deck.specs.FindingsOf.{IsInsideIn}
use Rattle.check_deck.specs.Insides.{AreSoMany}
use Rattle.check_deck.proofs.Numbered.{edges_more, many_in, many_none, many_out}
use Rattle.check_deck.proofs.nested.loops_round.Goals as goal

pub loop-outer-init : goal.loop-outer-init
loop-outer-init c = record {
  few = omega arith;
  so_far = many_none (λ outer. IsInsideIn c.args.nesting.now.flow.now outer (edge_of c.args.inner));
}

pub loop-outer-preserved-then-not-branch : goal.loop-outer-preserved-then-not-branch
loop-outer-preserved-then-not-branch c =
    let P : ℕ × ℕ → Type 0 = λ outer. IsInsideIn c.args.nesting.now.flow.now outer (edge_of c.args.inner) in
    let edges = c.args.edges.now in
    let k = c.loop-outer.outer-index in
    let one = c.outer-item.result in
    record {
      few = omega (arith, c.loop-outer.invariant.few);
      so_far =
          subst (λ (all : List (ℕ × ℕ)). AreSoMany P all c.loop-outer.many)
          (sym (edges_more edge_of edges k one c.loop-outer-test.true c.outer-item.is))
          (many_out P (map edge_of (take k edges)) (edge_of one) c.loop-outer.many c.loop-outer.invariant.so_far
          (λ is. let clash : true ≡ false = sym (c.in_ok-stands_inside.ensures.1 is) ∙ c.if-not-branch.true in cc));
    }

pub loop-outer-preserved : goal.loop-outer-preserved
loop-outer-preserved c =
    let P : ℕ × ℕ → Type 0 = λ outer. IsInsideIn c.args.nesting.now.flow.now outer (edge_of c.args.inner) in
    let edges = c.args.edges.now in
    let k = c.loop-outer.outer-index in
    let one = c.outer-item.result in
    record {
      few = omega (arith, c.loop-outer.invariant.few);
      so_far =
          subst (λ (all : List (ℕ × ℕ)). AreSoMany P all (c.loop-outer.many + 1))
          (sym (edges_more edge_of edges k one c.loop-outer-test.true c.outer-item.is))
          (many_in P (map edge_of (take k edges)) (edge_of one) c.loop-outer.many c.loop-outer.invariant.so_far
          (c.in_ok-stands_inside.ensures.0 c.if-not-branch.false));
    }

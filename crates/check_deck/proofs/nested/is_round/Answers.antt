-- Of is_round: none of the edges so far has a loop inside that of the outer one; one that has ends it.
use Rattle.std.proofs.Common.{◌≡◌, ℕ, ◌≤◌, List, true, false, refl, sym, ◌∙◌, subst, map, length, arith}
use Rattle.std.proofs.lemmas.List.{take_all}
use Rattle.base_notes.specs.declared.notes.edge.Edge.{Edge}
use Rattle.base_notes.specs.EdgeOf.{edge_of}
use Rattle.check_deck.specs.FindingsOf.{IsInsideIn}
use Rattle.check_deck.specs.Insides.{IsRound}
use Rattle.check_deck.proofs.Ones.{none_here, one_here}
use Rattle.check_deck.proofs.nested.is_round.Goals as goal

pub loop-inner-init : goal.loop-inner-init
loop-inner-init c has = has

pub loop-inner-preserved : goal.loop-inner-preserved
loop-inner-preserved c =
    let P : ℕ × ℕ → Type 0 = λ inner. IsInsideIn c.args.nesting.now.flow.now (edge_of c.args.outer) inner in
    none_here P edge_of c.args.mark.now c.loop-inner.inner-index c.inner-item.result c.loop-inner-test.true c.inner-item.is
    c.loop-inner.invariant
    (λ is. let clash : true ≡ false = sym (c.in_ok-stands_inside.ensures.1 is) ∙ c.if-branch.false in cc)

pub returns-then-branch : goal.returns-then-branch
returns-then-branch c =
    let P : ℕ × ℕ → Type 0 = λ inner. IsInsideIn c.args.nesting.now.flow.now (edge_of c.args.outer) inner in (
      λ is. one_here P edge_of c.args.mark.now c.loop-inner.inner-index c.inner-item.result c.loop-inner-test.true
          c.inner-item.is (c.in_ok-stands_inside.ensures.0 c.if-branch.true),
      λ has. refl,
    )

pub returns : goal.returns
returns c =
    let past : length c.args.mark.now ≤ c.loop-inner.inner-index = omega (arith, c.loop-inner-test.false) in (
      λ no. let clash : false ≡ true = no in cc,
      λ has. absurd (subst (λ (all : List Edge). ¬ IsRound (IsInsideIn c.args.nesting.now.flow.now) (map edge_of all) (edge_of c.args.outer))
          (take_all c.loop-inner.inner-index c.args.mark.now past) c.loop-inner.invariant has),
    )

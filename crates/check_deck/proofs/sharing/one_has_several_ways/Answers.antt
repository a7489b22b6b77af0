-- Of one_has_several_ways: none of the inner edges so far has several ways round it; one that has ends
-- it.
use Rattle.std.proofs.Common.{◌≡◌, ℕ, ◌≤◌, List, [], ◌∷◌, true, false, refl, sym, ◌∙◌, subst, map, length, arith}
use Rattle.std.proofs.lemmas.List.{take_all}
use Rattle.base_notes.specs.declared.notes.edge.Edge.{Edge}
use Rattle.base_notes.specs.EdgeOf.{edge_of}
use Rattle.check_deck.specs.FindingsOf.{IsInsideIn}
use Rattle.check_deck.specs.Insides.{HasOne, HasSeveralWays, IsRound}
use Rattle.check_deck.proofs.Ones.{none_here, one_here}
use Rattle.check_deck.proofs.sharing.one_has_several_ways.Goals as goal

pub loop-inner-init : goal.loop-inner-init
loop-inner-init c has = has

pub loop-inner-preserved : goal.loop-inner-preserved
loop-inner-preserved c =
    let P : ℕ × ℕ → Type 0 = λ inner. HasSeveralWays (IsRound (IsInsideIn c.args.nesting.now.flow.now) (inner ∷ [])) c.args.marks.now in
    none_here P edge_of c.args.inners.now c.loop-inner.inner-index c.inner-item.result c.loop-inner-test.true
    c.inner-item.is c.loop-inner.invariant
    (λ is. let clash : true ≡ false = sym (c.in_ok-has_several_ways.ensures.1 is) ∙ c.if-branch.false in cc)

pub returns-then-branch : goal.returns-then-branch
returns-then-branch c =
    let P : ℕ × ℕ → Type 0 = λ inner. HasSeveralWays (IsRound (IsInsideIn c.args.nesting.now.flow.now) (inner ∷ [])) c.args.marks.now in (
      λ is. one_here P edge_of c.args.inners.now c.loop-inner.inner-index c.inner-item.result c.loop-inner-test.true
          c.inner-item.is (c.in_ok-has_several_ways.ensures.0 c.if-branch.true),
      λ has. refl,
    )

pub returns : goal.returns
returns c =
    let P : ℕ × ℕ → Type 0 = λ inner. HasSeveralWays (IsRound (IsInsideIn c.args.nesting.now.flow.now) (inner ∷ [])) c.args.marks.now in
    let past : length c.args.inners.now ≤ c.loop-inner.inner-index = omega (arith, c.loop-inner-test.false) in (
      λ no. let clash : false ≡ true = no in cc,
      λ has. absurd (subst (λ (all : List Edge). ¬ HasOne P (map edge_of all))
          (take_all c.loop-inner.inner-index c.args.inners.now past) c.loop-inner.invariant has),
    )

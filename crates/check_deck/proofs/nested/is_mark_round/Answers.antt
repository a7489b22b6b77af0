-- Of is_mark_round: none of the edges so far has a loop round the mark's; one that has ends it.
use Rattle.std.proofs.Common.{◌≡◌, ℕ, ◌≤◌, List, true, false, refl, sym, ◌∙◌, subst, map, length, arith}
use Rattle.std.proofs.lemmas.List.{take_all}
use Rattle.base_notes.specs.declared.notes.edge.Edge.{Edge}
use Rattle.base_notes.specs.EdgeOf.{edge_of}
use Rattle.check_deck.specs.FindingsOf.{IsInsideIn}
use Rattle.check_deck.specs.Insides.{IsMarkRound, IsRound}
use Rattle.check_deck.proofs.Ones.{none_here, one_here}
use Rattle.check_deck.proofs.nested.is_mark_round.Goals as goal

pub loop-outer-init : goal.loop-outer-init
loop-outer-init c has = has

pub loop-outer-preserved : goal.loop-outer-preserved
loop-outer-preserved c =
    let P : ℕ × ℕ → Type 0 = λ outer. IsRound (IsInsideIn c.args.nesting.now.flow.now) (map edge_of c.args.mark.now) outer in
    none_here P edge_of c.args.edges.now c.loop-outer.outer-index c.outer-item.result c.loop-outer-test.true
    c.outer-item.is c.loop-outer.invariant
    (λ is. let clash : true ≡ false = sym (c.in_ok-is_round.ensures.1 is) ∙ c.if-branch.false in cc)

pub returns-then-branch : goal.returns-then-branch
returns-then-branch c =
    let P : ℕ × ℕ → Type 0 = λ outer. IsRound (IsInsideIn c.args.nesting.now.flow.now) (map edge_of c.args.mark.now) outer in (
      λ is. one_here P edge_of c.args.edges.now c.loop-outer.outer-index c.outer-item.result c.loop-outer-test.true
          c.outer-item.is (c.in_ok-is_round.ensures.0 c.if-branch.true),
      λ has. refl,
    )

pub returns : goal.returns
returns c =
    let past : length c.args.edges.now ≤ c.loop-outer.outer-index = omega (arith, c.loop-outer-test.false) in (
      λ no. let clash : false ≡ true = no in cc,
      λ has. absurd (subst (λ (all : List Edge). ¬ IsMarkRound (IsInsideIn c.args.nesting.now.flow.now) (map edge_of c.args.mark.now)
          (map edge_of all)) (take_all c.loop-outer.outer-index c.args.edges.now past) c.loop-outer.invariant has),
    )

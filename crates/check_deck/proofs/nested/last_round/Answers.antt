-- Of last_round: the number is that of the last mark so far inside whose loop the other's stands. One
-- more mark gives its own number, or leaves what there is.
use Rattle.std.proofs.Common.{◌≡◌, ℕ, ◌+◌, ◌≤◌, List, true, false, sym, ◌∙◌, subst, map, take, length, arith, Some}
use Rattle.std.proofs.lemmas.List.{take_all}
use Rattle.base_notes.specs.EdgeOf.{edge_of}
use Rattle.check_deck.specs.FindingsOf.{IsInsideIn}
use Rattle.check_deck.specs.Insides.{IsLastNumber, IsMarkRound}
use Rattle.check_deck.proofs.Numbered.{last_in, last_none, last_out, things_before, things_more}
use Rattle.check_deck.proofs.nested.last_round.Goals as goal

pub loop-place-init : goal.loop-place-init
loop-place-init c = last_none (IsMarkRound (IsInsideIn c.args.nesting.now.flow.now) (map edge_of c.args.mark.now))

pub loop-place-preserved-then-not-branch : goal.loop-place-preserved-then-not-branch
loop-place-preserved-then-not-branch c =
    let P : List (ℕ × ℕ) → Type 0 = IsMarkRound (IsInsideIn c.args.nesting.now.flow.now) (map edge_of c.args.mark.now) in
    let marks = c.args.marks.now in
    let k = c.loop-place.place in
    let one = c.index-marks-place.result in
    subst (λ (all : List (List (ℕ × ℕ))). IsLastNumber P all c.loop-place.number)
    (sym (things_more marks k one c.loop-place-test.true c.index-marks-place.is))
    (last_out P (take k marks) one c.loop-place.number c.loop-place.invariant
    (λ is. let clash : true ≡ false = sym (c.in_ok-is_mark_round.ensures.1 (subst P (sym c.all.ensures) is))
    ∙ c.if-not-branch.true in cc))

pub loop-place-preserved : goal.loop-place-preserved
loop-place-preserved c =
    let P : List (ℕ × ℕ) → Type 0 = IsMarkRound (IsInsideIn c.args.nesting.now.flow.now) (map edge_of c.args.mark.now) in
    let marks = c.args.marks.now in
    let k = c.loop-place.place in
    let one = c.index-marks-place.result in
    subst (λ (all : List (List (ℕ × ℕ))). IsLastNumber P all (Some (k + 1)))
    (sym (things_more marks k one c.loop-place-test.true c.index-marks-place.is))
    (last_in P (take k marks) one (k + 1)
    (things_before marks k one c.loop-place-test.true c.index-marks-place.is)
    (subst P c.all.ensures (c.in_ok-is_mark_round.ensures.0 c.if-not-branch.false)))

pub returns : goal.returns
returns c =
    let P : List (ℕ × ℕ) → Type 0 = IsMarkRound (IsInsideIn c.args.nesting.now.flow.now) (map edge_of c.args.mark.now) in
    let marks = c.args.marks.now in
    let past : length marks ≤ c.loop-place.place = omega (arith, c.loop-place-test.false) in
    subst (λ (all : List (List (ℕ × ℕ))). IsLastNumber P all c.loop-place.number)
    (take_all c.loop-place.place marks past) c.loop-place.invariant

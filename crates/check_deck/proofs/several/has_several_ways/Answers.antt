-- Of has_several_ways: no two of the marks so far go back to one location. One more that goes back to
-- where an earlier one does ends it; else it adds where it goes back to.
use Rattle.std.proofs.Common.{◌≡◌, ℕ, ◌+◌, ◌≤◌, List, [], ◌∷◌, ◌++◌, true, false, refl, ap, sym, ◌∙◌, subst, map, take, drop}
use Rattle.std.proofs.Common.{length, arith}
use Rattle.std.specs.List.{list_any}
use Rattle.std.proofs.lemmas.List.{map-append, take-append-drop, take_all}
use Rattle.base_words.specs.declared.location.Location.{Location}
use Rattle.base_notes.specs.EdgeOf.{edge_of}
use Rattle.flow_graph.specs.Taken.{is_among}
use Rattle.check_deck.specs.FindingsOf.{IsInsideIn}
use Rattle.check_deck.specs.Insides.{AreHeads, HasSeveralWays, IsRound}
use Rattle.check_deck.proofs.Numbered.{things_more}
use Rattle.check_deck.proofs.Ways.{AreSeen, seen_more, seen_none, seen_several}
use Rattle.check_deck.proofs.several.has_several_ways.Goals as goal

abbrev numbers : List Location → List ℕ
numbers places = map (λ (place : Location). place.number) places

pub loop-other-init : goal.loop-other-init
loop-other-init c =
    let P : ℕ × ℕ → Type 0 = IsRound (IsInsideIn c.args.nesting.now.flow.now) (map edge_of c.args.mark.now) in
    subst (λ (places : List Location). AreSeen P [] (numbers places)) (sym c.new-seen.ensures.items) (seen_none P)

pub loop-other-preserved : goal.loop-other-preserved
loop-other-preserved c =
    let P : ℕ × ℕ → Type 0 = IsRound (IsInsideIn c.args.nesting.now.flow.now) (map edge_of c.args.mark.now) in
    let marks = c.args.marks.now in
    let k = c.loop-other.other-index in
    let one = c.other-item.result in
    let seen = c.loop-other.seen.items in
    let heads = c.in_ok-heads.heads.items in
    let back : AreHeads P one (numbers heads) =
    subst (λ (edges : List (ℕ × ℕ)). AreHeads P edges (numbers heads)) c.all.ensures c.in_ok-heads.ensures in
    let apart : list_any (is_among (numbers seen)) (numbers heads) ≡ false =
    ap (λ (these : List Location). list_any (is_among (numbers these)) (numbers heads)) (sym c.deref.ensures.value)
    ∙ ap (λ (those : List Location). list_any (is_among (numbers c.deref.result.now)) (numbers those))
    (sym c.deref-in-loop-other.ensures.value) ∙ sym c.have_common.ensures ∙ c.if-have_common.false in
    subst (AreSeen P (take (k + 1) marks))
    (sym (ap numbers c.in_ok-extend_from_slice.ensures.items ∙ map-append (λ (place : Location). place.number) seen _
    ∙ ap (λ (more : List Location). numbers seen ++ numbers more) c.deref-in-loop-other-2.ensures.value))
    (subst (λ (all : List (List (ℕ × ℕ))). AreSeen P all (numbers seen ++ numbers heads))
    (sym (things_more marks k one c.loop-other-test.true c.other-item.is))
    (seen_more P (take k marks) one (numbers seen) (numbers heads) c.loop-other.invariant back apart))

pub returns-then-have_common : goal.returns-then-have_common
returns-then-have_common c =
    let P : ℕ × ℕ → Type 0 = IsRound (IsInsideIn c.args.nesting.now.flow.now) (map edge_of c.args.mark.now) in
    let marks = c.args.marks.now in
    let k = c.loop-other.other-index in
    let one = c.other-item.result in
    let seen = c.loop-other.seen.items in
    let heads = c.in_ok-heads.heads.items in
    let back : AreHeads P one (numbers heads) =
    subst (λ (edges : List (ℕ × ℕ)). AreHeads P edges (numbers heads)) c.all.ensures c.in_ok-heads.ensures in
    let common : list_any (is_among (numbers seen)) (numbers heads) ≡ true =
    ap (λ (these : List Location). list_any (is_among (numbers these)) (numbers heads)) (sym c.deref.ensures.value)
    ∙ ap (λ (those : List Location). list_any (is_among (numbers c.deref.result.now)) (numbers those))
    (sym c.deref-in-loop-other.ensures.value) ∙ sym c.have_common.ensures ∙ c.if-have_common.true in
    let whole : (take k marks ++ one ∷ []) ++ drop (k + 1) marks ≡ marks =
    ap (λ (all : List (List (ℕ × ℕ))). all ++ drop (k + 1) marks)
    (sym (things_more marks k one c.loop-other-test.true c.other-item.is)) ∙ take-append-drop (k + 1) marks in (
      λ is. subst (HasSeveralWays P) whole (seen_several P (take k marks) one (drop (k + 1) marks) (numbers seen)
          (numbers heads) c.loop-other.invariant back common),
      λ has. refl,
    )

pub returns : goal.returns
returns c =
    let P : ℕ × ℕ → Type 0 = IsRound (IsInsideIn c.args.nesting.now.flow.now) (map edge_of c.args.mark.now) in
    let marks = c.args.marks.now in
    let past : length marks ≤ c.loop-other.other-index = omega (arith, c.loop-other-test.false) in (
      λ no. let clash : false ≡ true = no in cc,
      λ has. absurd (c.loop-other.invariant.one_way
          (subst (HasSeveralWays P) (sym (take_all c.loop-other.other-index marks past)) has)),
    )

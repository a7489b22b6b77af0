-- Of add_band: each number so far at which a hop stands has its edge.
use Rattle.std.proofs.Common.{◌≡◌, ℕ, List, [], ◌∷◌, ◌++◌, Option, Some, sym, ap, subst, ◌∙◌, inl, inr}
use Rattle.std.proofs.Common.{arith}
use Rattle.std.specs.Prelude.{Contains, slice_get}
use Rattle.std.proofs.lemmas.Bool.{cases_lt}
use Rattle.std.proofs.lemmas.List.Elements.{Contains-push}
use Rattle.std.proofs.lemmas.Option.{slice_get-get_or}
use Rattle.base_notes.specs.Marks.{mark_on}
use Rattle.ceiling_rows.specs.declared.raised.Onward.{Onward}
use Rattle.ceiling_rows.specs.declared.row.Edge.{Edge}
use Rattle.ceiling_rows.specs.Slot.{place_of}
use Rattle.ceiling_rows.proofs.Pushed.{contains_before}
use Rattle.ceiling_rows.proofs.RowLaws.{edge_stays}
use Rattle.ceiling_rows.proofs.edges.add_band.Goals as goal

-- what stands at a number is what was read there
read : (onward : List (Option Onward)) (number slot : ℕ) (hop : Onward) (got : Option Onward) → slot ≡ number
    → slice_get onward number ≡ Some got → slice_get onward slot ≡ Some (Some hop) → got ≡ Some hop
read onward number slot hop got same here there =
    let both : Some got ≡ Some (Some hop) = sym here ∙ ap (slice_get onward) (sym same) ∙ there in
    cc

-- the edge that was pushed
new_edge : (edge : Edge) (edges all : List Edge) (slot : ℕ) (hop : Onward) (mark : Option ℕ) → all ≡ edges ++ edge ∷ []
    → edge.onto.number ≡ slot → edge.mark ≡ mark → edge.time ≡ hop.time → edge.stop ≡ hop.stop
    → (one : Edge) × Contains all one × (one.onto.number ≡ slot) × (one.mark ≡ mark) × (one.time ≡ hop.time)
    × (one.stop ≡ hop.stop)
new_edge edge edges all slot hop mark more at on long last =
    (edge, subst (λ (some : List Edge). Contains some edge) (sym more) (Contains-push edges edge), at, on, long, last)

pub loop-number-preserved : goal.loop-number-preserved
loop-number-preserved c =
    let onward = c.args.onward.now in
    let marks = c.args.marks.now in
    let from = c.args.from.number in
    let number = c.loop-number.number in
    let edges = c.loop-number.edges.items in
    let all = c.push.new.self.items in
    let stay : (edge : Edge) → Contains edges edge → Contains all edge =
    λ edge there. subst (λ (some : List Edge). Contains some edge) (sym c.in_ok-push.ensures.items)
    (contains_before edges _ edge there) in
    record {
      added = λ slot hop low high at. elim (cases_lt slot number) [
        | inl before ↦ edge_stays marks from edges all slot hop stay (c.loop-number.invariant.added slot hop low before at)
        | inr last ↦ (
            let same : slot ≡ number = omega (arith, high, last) in
            let got : slice_get onward number ≡ Some (Some c.in-Some.hop) =
            slice_get-get_or onward number _ (omega (arith, c.loop-number-test.true, c.requires.long, c.requires.within))
            ∙ ap Some c.in-Some.is in
            let is : Some c.in-Some.hop ≡ Some hop = read onward number slot hop (Some c.in-Some.hop) same got at in
            let own : c.in-Some.hop ≡ hop = cc in
            new_edge _ edges all slot hop (mark_on marks from (place_of slot)) c.in_ok-push.ensures.items (sym same)
            (c.mark_between.ensures ∙ ap (mark_on marks from) (c.location.ensures ∙ ap place_of (sym same)))
            (ap (λ (one : Onward). one.time) own) (ap (λ (one : Onward). one.stop) own))
      ];
      kept = λ edge there. stay edge (c.loop-number.invariant.kept edge there);
    }

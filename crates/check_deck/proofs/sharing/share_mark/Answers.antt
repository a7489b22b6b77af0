-- Of share_mark: the marks are those on each of the edges that go back to the location.
use Rattle.std.proofs.Common.{◌≡◌, ℕ, List, [], ◌∷◌, map, ap, ◌∙◌, subst, ◌↔◌, IsTrue}
use Rattle.std.specs.Prelude.{filter}
use Rattle.std.proofs.lemmas.Result.{IfOk-weaker}
use Rattle.base_notes.specs.EdgeOf.{edge_of}
use Rattle.check_deck.specs.FindingsOf.{IsInsideIn}
use Rattle.check_deck.specs.Insides.{alone, goes_onto, HasOne, HasSeveralWays, IsRound, ShareMark}
use Rattle.check_deck.proofs.sharing.share_mark.Goals as goal

pub returns : goal.returns
returns c =
    let Inside : ℕ × ℕ → ℕ × ℕ → Type 0 = IsInsideIn c.args.nesting.now.flow.now in
    let inners = map edge_of c.args.inners.now in
    let edges = map edge_of c.args.edges.now in
    let Several : List (List (ℕ × ℕ)) → Type 0 =
    λ marks. HasOne (λ inner. HasSeveralWays (IsRound Inside (inner ∷ [])) marks) inners in
    let same : c.deref-2.result.now ≡ alone (filter (goes_onto c.args.head.number) edges) =
    c.deref-2.ensures.value ∙ c.in_ok-marks.ensures
    ∙ ap alone (ap (map edge_of) c.deref.ensures.value ∙ c.in_ok-those.ensures) in
    IfOk-weaker c.one_has_several_ways.result (λ share. IsTrue share ↔ Several c.deref-2.result.now)
    (λ share. IsTrue share ↔ ShareMark Inside inners edges c.args.head.number)
    (λ share iff. subst (λ (marks : List (List (ℕ × ℕ))). IsTrue share ↔ Several marks) same iff)
    c.one_has_several_ways.ensures

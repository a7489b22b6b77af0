-- Of heads_round: one edge more adds where it goes back to, or nothing.
use Rattle.std.proofs.Common.{◌≡◌, ℕ, ◌+◌, List, ◌++◌, ◌∷◌, [], true, false, ap, sym, ◌∙◌, subst, map, take}
use Rattle.std.proofs.lemmas.List.{map_push}
use Rattle.base_words.specs.declared.location.Location.{Location}
use Rattle.base_notes.specs.EdgeOf.{edge_of}
use Rattle.check_deck.specs.FindingsOf.{IsInsideIn}
use Rattle.check_deck.specs.Insides.{AreHeads, IsRound}
use Rattle.check_deck.proofs.Ways.{heads_in, heads_none, heads_out}
use Rattle.check_deck.proofs.Numbered.{edges_more}
use Rattle.check_deck.proofs.several.heads_round.Goals as goal

pub loop-outer-init : goal.loop-outer-init
loop-outer-init c =
    let P : ℕ × ℕ → Type 0 = IsRound (IsInsideIn c.args.nesting.now.flow.now) (map edge_of c.args.mark.now) in
    subst (λ (places : List Location). AreHeads P [] (map (λ (head : Location). head.number) places))
    (sym c.new-heads.ensures.items) (heads_none P)

pub loop-outer-preserved-then-not-branch : goal.loop-outer-preserved-then-not-branch
loop-outer-preserved-then-not-branch c =
    let P : ℕ × ℕ → Type 0 = IsRound (IsInsideIn c.args.nesting.now.flow.now) (map edge_of c.args.mark.now) in
    let edges = c.args.edges.now in
    let k = c.loop-outer.outer-index in
    let one = c.outer-item.result in
    let heads : List ℕ = map (λ (head : Location). head.number) c.loop-outer.heads.items in
    subst (λ (all : List (ℕ × ℕ)). AreHeads P all heads)
    (sym (edges_more edge_of edges k one c.loop-outer-test.true c.outer-item.is))
    (heads_out P (map edge_of (take k edges)) (edge_of one) heads c.loop-outer.invariant
    (λ is. let clash : true ≡ false = sym (c.in_ok-is_round.ensures.1 is) ∙ c.if-not-branch.true in cc))

pub loop-outer-preserved : goal.loop-outer-preserved
loop-outer-preserved c =
    let P : ℕ × ℕ → Type 0 = IsRound (IsInsideIn c.args.nesting.now.flow.now) (map edge_of c.args.mark.now) in
    let edges = c.args.edges.now in
    let k = c.loop-outer.outer-index in
    let one = c.outer-item.result in
    let heads : List ℕ = map (λ (head : Location). head.number) c.loop-outer.heads.items in
    let grown : map (λ (head : Location). head.number) c.push.new.self.items ≡ heads ++ one.onto.number ∷ [] =
    ap (map (λ (head : Location). head.number)) c.in_ok-push.ensures.items
    ∙ map_push (λ (head : Location). head.number) c.loop-outer.heads.items one.onto in
    subst (AreHeads P (map edge_of (take (k + 1) edges))) (sym grown)
    (subst (λ (all : List (ℕ × ℕ)). AreHeads P all (heads ++ one.onto.number ∷ []))
    (sym (edges_more edge_of edges k one c.loop-outer-test.true c.outer-item.is))
    (heads_in P (map edge_of (take k edges)) (edge_of one) heads c.loop-outer.invariant
    (c.in_ok-is_round.ensures.0 c.if-not-branch.false)))

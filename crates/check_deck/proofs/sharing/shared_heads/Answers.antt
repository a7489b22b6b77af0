-- Of shared_heads: the locations so far are those that edges so far go back to and share a mark at. One
-- edge more adds its own, unless an earlier one goes back there too, or edges don't share a mark there.
use Rattle.std.proofs.Common.{◌≡◌, ℕ, ◌+◌, ◌≤◌, List, [], ◌∷◌, ◌++◌, true, false, ap, sym, ◌∙◌, subst, map, take, length, arith}
use Rattle.std.specs.List.{list_any}
use Rattle.std.proofs.lemmas.List.{map_push, take_all}
use Rattle.base_words.specs.declared.location.Location.{Location}
use Rattle.base_notes.specs.declared.notes.edge.Edge.{Edge}
use Rattle.base_notes.specs.EdgeOf.{edge_of}
use Rattle.check_deck.specs.FindingsOf.{IsInsideIn}
use Rattle.check_deck.specs.Insides.{goes_onto, ShareMark}
use Rattle.check_deck.proofs.Heads.{told_in, told_known, told_none, told_out, AreTold}
use Rattle.check_deck.proofs.Numbered.{edges_more}
use Rattle.check_deck.proofs.sharing.shared_heads.Goals as goal

abbrev numbers : List Location → List ℕ
numbers places = map (λ (place : Location). place.number) places

pub loop-index-init : goal.loop-index-init
loop-index-init c =
    let P : ℕ → Type 0 = ShareMark (IsInsideIn c.args.nesting.now.flow.now) (map edge_of c.args.inners.now) (map edge_of c.args.edges.now) in
    subst (λ (places : List Location). AreTold P [] (numbers places)) (sym c.new-shared.ensures.items) (told_none P)

pub loop-index-preserved-then-one_goes_onto : goal.loop-index-preserved-then-one_goes_onto
loop-index-preserved-then-one_goes_onto c =
    let P : ℕ → Type 0 = ShareMark (IsInsideIn c.args.nesting.now.flow.now) (map edge_of c.args.inners.now) (map edge_of c.args.edges.now) in
    let edges = c.args.edges.now in
    let k = c.loop-index.index in
    let edge = c.index-edges-index.result in
    let heads : List ℕ = numbers c.loop-index.shared.items in
    let said = c.one_goes_onto.ensures in
    let known : list_any (goes_onto edge.onto.number) (map edge_of (take k edges)) ≡ true =
    sym c.one_goes_onto.ensures ∙ c.if-one_goes_onto.true in
    subst (λ (all : List (ℕ × ℕ)). AreTold P all heads)
    (sym (edges_more edge_of edges k edge c.loop-index-test.true c.index-edges-index.is))
    (told_known P (map edge_of (take k edges)) (edge_of edge) heads c.loop-index.invariant known)

pub loop-index-preserved-then-not-branch : goal.loop-index-preserved-then-not-branch
loop-index-preserved-then-not-branch c =
    let P : ℕ → Type 0 = ShareMark (IsInsideIn c.args.nesting.now.flow.now) (map edge_of c.args.inners.now) (map edge_of c.args.edges.now) in
    let edges = c.args.edges.now in
    let k = c.loop-index.index in
    let edge = c.index-edges-index.result in
    let heads : List ℕ = numbers c.loop-index.shared.items in
    subst (λ (all : List (ℕ × ℕ)). AreTold P all heads)
    (sym (edges_more edge_of edges k edge c.loop-index-test.true c.index-edges-index.is))
    (told_out P (map edge_of (take k edges)) (edge_of edge) heads c.loop-index.invariant
    (λ is. let clash : true ≡ false = sym (c.in_ok-share_mark.ensures.1 is) ∙ c.if-not-branch.true in cc))

pub loop-index-preserved : goal.loop-index-preserved
loop-index-preserved c =
    let P : ℕ → Type 0 = ShareMark (IsInsideIn c.args.nesting.now.flow.now) (map edge_of c.args.inners.now) (map edge_of c.args.edges.now) in
    let edges = c.args.edges.now in
    let k = c.loop-index.index in
    let edge = c.index-edges-index.result in
    let heads : List ℕ = numbers c.loop-index.shared.items in
    let grown : numbers c.push.new.self.items ≡ heads ++ edge.onto.number ∷ [] =
    ap numbers c.in_ok-push.ensures.items
    ∙ map_push (λ (place : Location). place.number) c.loop-index.shared.items edge.onto in
    subst (AreTold P (map edge_of (take (k + 1) edges))) (sym grown)
    (subst (λ (all : List (ℕ × ℕ)). AreTold P all (heads ++ edge.onto.number ∷ []))
    (sym (edges_more edge_of edges k edge c.loop-index-test.true c.index-edges-index.is))
    (told_in P (map edge_of (take k edges)) (edge_of edge) heads c.loop-index.invariant
    (c.in_ok-share_mark.ensures.0 c.if-not-branch.false)))

pub returns : goal.returns
returns c =
    let P : ℕ → Type 0 = ShareMark (IsInsideIn c.args.nesting.now.flow.now) (map edge_of c.args.inners.now) (map edge_of c.args.edges.now) in
    let edges = c.args.edges.now in
    let past : length edges ≤ c.loop-index.index = omega (arith, c.loop-index-test.false) in
    let all : AreTold P (map edge_of edges) (numbers c.loop-index.shared.items) =
    subst (λ (xs : List Edge). AreTold P (map edge_of xs) (numbers c.loop-index.shared.items))
    (take_all c.loop-index.index edges past) c.loop-index.invariant in
    record { only = all.only; all = all.all }

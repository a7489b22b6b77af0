-- Of loops_within: the loops so far have their marks. The marks before the one at hand are the notes'
-- and those that came with the edges so far: so what is so of these is so of all that stand before it.
use Rattle.std.proofs.Common.{◌≡◌, ◌∷◌, [], ◌++◌, ℕ, ◌+◌, List, map, take, ap, sym, ◌∙◌, subst, append_assoc}
use Rattle.std.proofs.lemmas.Grind.{flat_map-append}
use Rattle.std.proofs.lemmas.List.{append-nil, map_push}
use Rattle.base_words.specs.declared.location.Location.{Location}
use Rattle.base_notes.specs.EdgeOf.{edge_of}
use Rattle.check_findings.specs.declared.within.Within.{Within}
use Rattle.check_findings.specs.Finding.{closes}
use Rattle.check_findings.specs.FindingOf.{seen}
use Rattle.check_findings.specs.Edges.{marks_of}
use Rattle.check_deck.specs.FindingsOf.{IsInsideIn}
use Rattle.check_deck.specs.Insides.{mark_on, new_mark, new_marks, AreToldInside, IsTold}
use Rattle.check_deck.specs.Insides.{IsToldBehind}
use Rattle.check_deck.proofs.Numbered.{edges_more}
use Rattle.check_deck.proofs.Tellings.{told_more}
use Rattle.check_deck.proofs.loops.loops_within.Goals as goal

pub loop-edge-preserved : goal.loop-edge-preserved
loop-edge-preserved c =
    let edges = c.args.edges.now in
    let all_edges : List (ℕ × ℕ) = map edge_of edges in
    let shared : List ℕ = map (λ (head : Location). head.number) c.args.shared.now in
    let k = c.loop-edge.edge-index in
    let edge = c.edge-item.result in
    let marks : List (List (ℕ × ℕ)) = marks_of c.args.nesting.now.flow.now.notes.now in
    let Inside : ℕ × ℕ → ℕ × ℕ → Type 0 = IsInsideIn c.args.nesting.now.flow.now in
    let IsOne : List (ℕ × ℕ) → ℕ × ℕ → Within → Type 0 = IsToldBehind Inside marks shared all_edges in
    let within = c.in_ok-within.within in
    let loops = c.loop-edge.loops.items in
    let so_far : List (ℕ × ℕ) = map edge_of (take k edges) in
    let more : map edge_of (take (k + 1) edges) ≡ so_far ++ edge_of edge ∷ [] =
    edges_more edge_of edges k edge c.loop-edge-test.true c.edge-item.is in
    let whole : c.deref.result.now ≡ marks ++ new_marks shared all_edges all_edges =
    c.deref.ensures.value ∙ c.in_ok-all.ensures in
    let stand : c.deref-in-loop-edge.result.now ≡ marks ++ new_marks shared all_edges so_far =
    c.deref-in-loop-edge.ensures.value ∙ c.loop-edge.invariant.before in
    let here : map edge_of c.all.result.now ≡ mark_on shared all_edges (edge_of edge) =
    c.all.ensures ∙ c.in_ok-mark.ensures in
    let last : IsOne so_far (edge_of edge) within =
    subst (λ (mark : List (ℕ × ℕ)). IsTold Inside (marks ++ new_marks shared all_edges all_edges)
    (marks ++ new_marks shared all_edges so_far) mark (edge_of edge) within) here
    (subst (λ (before : List (List (ℕ × ℕ))). IsTold Inside (marks ++ new_marks shared all_edges all_edges) before
    (map edge_of c.all.result.now) (edge_of edge) within) stand
    (subst (λ (all : List (List (ℕ × ℕ))). IsTold Inside all c.deref-in-loop-edge.result.now
    (map edge_of c.all.result.now) (edge_of edge) within) whole c.in_ok-within.ensures)) in
    let grown : map seen c.push.new.self.items ≡ map seen loops ++ closes (edge_of edge) within ∷ [] =
    ap (map seen) c.in_ok-push.ensures.items ∙ map_push seen loops _ in
    let new : List (List (ℕ × ℕ)) = new_mark shared all_edges (edge_of edge) in
    let added : new_marks shared all_edges (so_far ++ edge_of edge ∷ []) ≡ new_marks shared all_edges so_far ++ new =
    flat_map-append (new_mark shared all_edges) so_far (edge_of edge ∷ [])
    ∙ ap (λ (last : List (List (ℕ × ℕ))). new_marks shared all_edges so_far ++ last) (append-nil new) in
    record {
      before =
          c.in_ok-add_new_mark.ensures
          ∙ ap (λ (all : List (List (ℕ × ℕ))). all ++ new) c.loop-edge.invariant.before
          ∙ append_assoc marks (new_marks shared all_edges so_far) new
          ∙ ap (λ (all : List (List (ℕ × ℕ))). marks ++ all) (sym added)
          ∙ ap (λ (all : List (ℕ × ℕ)). marks ++ new_marks shared all_edges all) (sym more);
      told =
          subst (λ (all : List (ℕ × ℕ)). AreToldInside IsOne [] all (map seen c.push.new.self.items)) (sym more)
          (subst (AreToldInside IsOne [] (so_far ++ edge_of edge ∷ [])) (sym grown)
          (told_more IsOne [] so_far (map seen loops) (edge_of edge) within c.loop-edge.invariant.told last));
    }

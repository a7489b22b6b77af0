use Rattle.std.proofs.Common.{◌≡◌, ◌+◌, List, [], ◌∷◌, ◌++◌, ap, sym, ◌∙◌, subst, take, Option}
use Rattle.std.proofs.lemmas.List.{take_more}
use Rattle.flow_walks.specs.declared.piece.Piece.{Piece}
use Rattle.flow_walks.specs.Pieces.{spelled_behind, spelled_by}
use Rattle.ceiling_rounds.proofs.SpelledLaws.{behind_more}
use Rattle.print_ceilings.specs.declared.ends.Ends.{Ends}
use Rattle.print_ceilings.specs.EndsOf.{AreAllEnds}
use Rattle.print_ceilings.proofs.EndLaws.{more_ends}
use Rattle.print_ceilings.proofs.ends.all_ends.Goals as goal

pub loop-piece-preserved : goal.loop-piece-preserved
loop-piece-preserved c =
    let pieces = c.args.pieces.now in
    let i = c.loop-piece.piece-index in
    let piece = c.piece-item.result in
    let before = spelled_behind [] (take i pieces) in
    let taken : take (i + 1) pieces ≡ take i pieces ++ piece ∷ [] =
    take_more pieces i piece c.loop-piece-test.true ∙ ap (λ (p : Piece). take i pieces ++ p ∷ []) (sym c.piece-item.is) in
    let spelled : spelled_behind [] (take (i + 1) pieces) ≡ before ++ spelled_by before piece ∷ [] =
    ap (spelled_behind []) taken ∙ behind_more [] (take i pieces) piece in
    let now = c.ends_of-next.ensures before
    (subst (λ (ends : List (Option Ends)). AreAllEnds ends before) (sym c.deref.ensures.value) c.loop-piece.invariant) in
    subst (AreAllEnds c.push.new.self.items) (sym spelled)
    (subst (λ (ends : List (Option Ends)). AreAllEnds ends (before ++ spelled_by before piece ∷ []))
    (sym c.in_ok-push.ensures.items)
    (more_ends c.loop-piece.ends.items before c.ends_of-next.result (spelled_by before piece) c.loop-piece.invariant now))

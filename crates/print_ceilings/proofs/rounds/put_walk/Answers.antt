use Rattle.std.proofs.Common.{ℕ, List, length, ap, ◌∙◌, None, Option}
use Rattle.std.proofs.lemmas.List.{length-replicate}
use Rattle.print_lines.proofs.Passing.{passes_as}
use Rattle.flow_walks.specs.declared.piece.Piece.{Piece}
use Rattle.ceiling_rounds.specs.InRounds.{pieces_of}
use Rattle.print_ceilings.specs.RoundsText.{joined, PartsSoFar}
use Rattle.print_ceilings.proofs.Starts.{all_told, soon_enough}
use Rattle.print_ceilings.proofs.rounds.put_walk.Goals as goal

pub named-requires-clause-may : goal.named-requires-clause-may
named-requires-clause-may g c = record {
  parts =
      ap (λ (parts : List (Option ℕ)). length parts) c.requires.outlined.none
      ∙ length-replicate (length (pieces_of c.args.walk.now)) None;
  fits =
      soon_enough _ c.args.index.parts.items (length c.pieces-count.result.now) c.saturating_sub.result
      (ap (λ (ps : List Piece). length ps) c.pieces-count.ensures) c.saturating_sub.ensures c.requires.outlined.none
      c.requires.right c.requires.early;
}

pub returns : goal.returns
returns g c =
    passes_as (ap (λ (x : List (List ℕ) × PartsSoFar). joined x.0)
    (all_told _ c.args.index.parts.items (length c.pieces-count.result.now) c.saturating_sub.result
    (ap (λ (ps : List Piece). length ps) c.pieces-count.ensures) c.saturating_sub.ensures c.requires.outlined.none))
    c.named.ensures.lines

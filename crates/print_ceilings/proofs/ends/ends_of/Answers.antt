use Rattle.std.proofs.Common.{sym, subst}
use Rattle.flow_walks.specs.declared.piece.Piece.{Piece}
use Rattle.flow_walks.specs.Pieces.{spelled_at, spelled_by}
use Rattle.print_ceilings.specs.EndsOf.{AreEnds}
use Rattle.print_ceilings.proofs.EndLaws.{repeated_ends}
use Rattle.print_ceilings.proofs.ends.ends_of.Goals as goal

pub returns-in-Rounds : goal.returns-in-Rounds
returns-in-Rounds c spells are =
    let rounds = c.in-Rounds.rounds in
    subst (λ (one : Piece). AreEnds c.ends_at.result (spelled_by spells one)) (sym c.in-Rounds.is)
    (repeated_ends c.ends_at.result rounds.times (spelled_at spells rounds.piece) rounds.some
    (c.ends_at.ensures spells are))

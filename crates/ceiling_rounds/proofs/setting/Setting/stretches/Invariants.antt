use Rattle.std.proofs.Common.{[], take}
use Rattle.flow_graph.specs.SettingOf.{setting}
use Rattle.flow_walks.specs.Pieces.{spelled_behind}
use Rattle.ceiling_rounds.specs.Stretch.{AreStretches}
use Rattle.ceiling_rounds.proofs.setting.Setting.stretches.Given as goal

-- those of the pieces so far
abbrev pub invariant-loop-piece : goal.invariant-loop-piece
invariant-loop-piece l =
    AreStretches (setting l.self.deck.now l.self.times.now l.self.notes.now)
    (spelled_behind [] (take l.piece-index l.pieces)) l.stretches.items

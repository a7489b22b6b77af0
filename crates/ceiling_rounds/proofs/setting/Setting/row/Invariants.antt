use Rattle.std.proofs.Common.{List, take}
use Rattle.std.specs.Prelude.{flat_map}
use Rattle.flow_graph.specs.SettingOf.{setting}
use Rattle.flow_walks.specs.Pieces.{spelled_at, PlacedHop}
use Rattle.ceiling_rounds.specs.Stretch.{span_of, AreStretches, ComeTo}
use Rattle.ceiling_rounds.proofs.setting.Setting.row.Given as goal

-- what the pieces so far come to
abbrev pub invariant-loop-number : goal.invariant-loop-number
invariant-loop-number l =
    (before : List (List PlacedHop))
    → AreStretches (setting l.self.deck.now l.self.times.now l.self.notes.now) before l.stretches
    → ComeTo (setting l.self.deck.now l.self.times.now l.self.notes.now)
    (flat_map (spelled_at before) (take l.number-index l.pieces)) (span_of l.whole)

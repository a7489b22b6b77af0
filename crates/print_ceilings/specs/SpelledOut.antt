-- The walk that a walk in rounds stands for, hop by hop.
use Rattle.std.specs.Prelude.{◌≡◌, ℕ, ◌+◌, ◌%◌, List, map}
use Rattle.flow_graph.specs.Walk.{Setting}
use Rattle.flow_walks.specs.Visited.{AreLongest, IsWalkOf, Visited}
use Rattle.flow_walks.specs.Pieces.{spelled, PlacedHop}
use Rattle.ceiling_rounds.specs.declared.in_rounds.InRounds.{InRounds}
use Rattle.ceiling_rounds.specs.InRounds.{angle_of, pieces_of, total_of}

-- a hop of a walk from this angle, with its own angle in place of its times
abbrev pub placed_visit : ℕ → Visited → PlacedHop
placed_visit start visit = record {
  place = visit.place;
  angle = (start + visit.begun) % 50;
  hop = record { ins = visit.ins; way = visit.way };
}

-- These are the hops of the walk that its pieces spell out, each as long as it can be. They take
-- what the walk takes.
pub record AreSpelledOut (g : Setting) (walk : InRounds) (visits : List Visited) : Type 0 where
  pub walk_of : IsWalkOf g (angle_of walk) (total_of walk) visits
  pub longest : AreLongest g (angle_of walk) visits
  pub pieces : map (placed_visit (angle_of walk)) visits ≡ spelled (pieces_of walk)

-- When a ceiling is right.
use Rattle.std.specs.Prelude.{◌≡◌, ℕ, ◌^◌, ◌<◌, ◌≤◌, List, length, All}
use Rattle.flow_graph.specs.Accepted.{IsAdmitted}
use Rattle.flow_graph.specs.Bounded.{IsBounded}
use Rattle.flow_graph.specs.Executed.{each_place, AreAllNodes}
use Rattle.flow_graph.specs.Hops.{Node}
use Rattle.flow_graph.specs.Walk.{Setting, Taken, IsWalk, time_of}
use Rattle.ceiling_checked.specs.Affine.{owed_by, Affine}
use Rattle.ceiling_checked.specs.Certificate.{IsCertificate}
use Rattle.ceiling_checked.specs.Rounds.{PayForRounds}
use Rattle.ceiling_checked.specs.Size.{IsWithinSize}

-- The total, in word times, is that of a certificate by these prices, one for each mark, and the
-- prices pay for every round.
pub record ArePrices (g : Setting) (prices : List ℕ) (total : ℕ) : Type 0 where
  pub each : length prices ≡ length g.notes.marks
  pub form : Affine
  pub certificate : IsCertificate g (owed_by g.notes.marks prices form) total
  pub small : total < 2 ^ 127
  pub rounds : PayForRounds g prices

-- The prices of the marks and the total, in word times, are those of a ceiling.
pub record IsCeiling (g : Setting) (prices : List ℕ) (total : ℕ) : Type 0 where
  -- the deck with its notes is admitted, and the total is no higher than it need ever be
  pub nodes : List Node
  pub reached : AreAllNodes g.loads g.notes g.start nodes
  pub admitted : IsAdmitted g.loads g.notes g.start (each_place nodes)
  pub low : IsWithinSize g nodes total
  -- and neither is any price
  pub prices_low : All (IsWithinSize g nodes) prices
  pub are : ArePrices g prices total
  -- no walk of the flow graph takes more
  pub walks : (angle : ℕ) (hops : List Taken) → IsWalk g angle hops → time_of hops ≤ total
  -- no run that keeps to the notes uses more at any moment
  pub kept : IsBounded g total

-- The deck with its notes is admitted, and what no ceiling is above comes to this number or more.
pub record IsTooDear (g : Setting) (least : ℕ) : Type 0 where
  pub nodes : List Node
  pub reached : AreAllNodes g.loads g.notes g.start nodes
  pub admitted : IsAdmitted g.loads g.notes g.start (each_place nodes)
  pub large : IsWithinSize g nodes least

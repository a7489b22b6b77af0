-- When a number is the bound of an accepted deck.
use Rattle.std.specs.Prelude.{ℕ}
use Rattle.flow_graph.specs.Bounded.{IsBounded, IsDeckAccepted}
use Rattle.flow_graph.specs.Walk.{Setting}
use Rattle.flow_walks.specs.Worst.{IsWorst}

-- The bound: the deck with its notes is accepted, some walk takes this time and none takes more,
-- and no run that keeps to the notes ever uses more.
pub record IsBound (g : Setting) (bound : ℕ) : Type 0 where
  pub accepted : IsDeckAccepted g
  pub worst : IsWorst g bound
  pub bounded : IsBounded g bound

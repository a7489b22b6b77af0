-- How long steps take, from when an instruction is found until the next one is.
use Rattle.std.specs.Prelude.{◌≡◌, ℕ, ◌+◌, ◌≤◌, List, Contains}
use Rattle.machine_steps.specs.Timing.{found}
use Rattle.flow_graph.specs.Hops.{Hop, hops}
use Rattle.flow_graph.specs.Longest.{longest}
use Rattle.flow_graph.specs.Walk.{Setting}

-- when the next instruction is found, where a hop that is found at this clock takes longest
abbrev pub arrival : Setting → ℕ → ℕ → Hop → ℕ → ℕ
arrival g place clock hop next = found next (longest g.times place hop.ins hop.way clock)

-- No step of an executed location takes more than so many word times, from when its instruction is
-- found, with 49 for the next search.
pub record TakesAtMost (g : Setting) (executed : List ℕ) (most : ℕ) : Type 0 where
  pub some : 1 ≤ most
  pub each : (place clock : ℕ) (hop : Hop) → Contains executed place
      → Contains (hops g.loads g.notes place) hop → found place clock ≡ clock
      → longest g.times place hop.ins hop.way clock + 49 ≤ clock + most

-- The time of the longest walk: some walk has it, and none has more.
use Rattle.std.specs.Prelude.{◌≡◌, ℕ, ◌≤◌, List}
use Rattle.flow_graph.specs.Walk.{Setting, Taken, IsWalk, time_of}

pub record IsWorst (g : Setting) (bound : ℕ) : Type 0 where
  -- some walk has it
  pub angle : ℕ
  pub hops : List Taken
  pub walk : IsWalk g angle hops
  pub time : time_of hops ≡ bound
  -- none has more
  pub most : (other_angle : ℕ) (others : List Taken) → IsWalk g other_angle others
      → time_of others ≤ bound

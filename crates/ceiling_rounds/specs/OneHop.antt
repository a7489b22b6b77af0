-- That no walk of one hop takes longer.
use Rattle.std.specs.Prelude.{ℕ, ◌≤◌, [], ◌∷◌}
use Rattle.flow_graph.specs.Walk.{Setting, Taken, IsWalk, time_of}

-- no walk of one hop, from any angle, takes more word times than this
abbrev pub NoWalkOfOneHopTakesLonger : Setting → ℕ → Type 0
NoWalkOfOneHopTakesLonger g total =
    (angle : ℕ) (hop : Taken) → IsWalk g angle (hop ∷ []) → time_of (hop ∷ []) ≤ total

-- What no run that keeps to the notes uses more than.
use Rattle.std.specs.Prelude.{ℕ, ◌≤◌, List}
use Rattle.machine_steps.specs.Keeps.{IsKept}
use Rattle.machine_steps.specs.Run.{Stride, IsRun, IsFirstState, used_from}
use Rattle.machine_steps.specs.Step.{State}
use Rattle.flow_graph.specs.Accepted.{IsAccepted, IsFixed}
use Rattle.flow_graph.specs.Walk.{Setting}

-- the deck with its notes is accepted
abbrev pub IsDeckAccepted : Setting → Type 0
IsDeckAccepted g = (executed : List ℕ) × IsAccepted g.loads g.notes g.start executed

-- each run that keeps to the notes has used `most` word times at most, at any moment
abbrev pub IsBounded : Setting → ℕ → Type 0
IsBounded g most = (s : State) (steps : List Stride)
    → IsFirstState g.loads (IsFixed g.loads g.notes g.start) g.start s
    → IsRun g.times s steps → IsKept g.loads g.notes s steps → used_from 0 steps ≤ most

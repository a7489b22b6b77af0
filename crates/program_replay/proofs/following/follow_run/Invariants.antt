use Rattle.std.proofs.Common.{◌-◌, ◌+◌, List}
use Rattle.machine_steps.specs.Run.{Stride}
use Rattle.flow_graph.specs.SettingOf.{setting}
use Rattle.program_replay.specs.Following.{IsFollowing, state_of, used_so_far, waits_of}
use Rattle.program_replay.proofs.following.follow_run.Given as goal

abbrev pub invariant-loop-verdict : goal.invariant-loop-verdict
invariant-loop-verdict l = record {
  strides : List Stride;
  so_far : IsFollowing (setting l.deck l.times l.notes) (state_of l.fn.following) (waits_of l.fn.following) l.bound
      strides l.following;
}

-- each step uses time
abbrev pub decreases-loop-verdict : goal.decreases-loop-verdict
decreases-loop-verdict l = l.bound + 1 - used_so_far l.following

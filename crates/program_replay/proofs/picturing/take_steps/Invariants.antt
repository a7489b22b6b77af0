use Rattle.std.proofs.Common.{◌-◌, ◌+◌, List}
use Rattle.machine_steps.specs.Run.{Stride}
use Rattle.flow_graph.specs.SettingOf.{setting}
use Rattle.program_replay.specs.Following.{IsFollowing, state_of, used_so_far, waits_of}
use Rattle.program_replay.proofs.picturing.take_steps.Given as goal

abbrev pub invariant-loop-following : goal.invariant-loop-following
invariant-loop-following l = record {
  strides : List Stride;
  so_far : IsFollowing (setting l.deck l.times l.notes) (state_of l.fn.following) (waits_of l.fn.following) l.most
      strides l.following;
}

-- each step uses time
abbrev pub decreases-loop-following : goal.decreases-loop-following
decreases-loop-following l = l.most + 1 - used_so_far l.following

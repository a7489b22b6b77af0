use Rattle.std.proofs.Common.{◌+◌, ◌-◌, List}
use Rattle.base_notes.specs.Entries.{entry_in}
use Rattle.machine_steps.specs.Run.{Stride}
use Rattle.flow_graph.specs.SettingOf.{setting}
use Rattle.print_lines.specs.Stands.{Passes}
use Rattle.print_hops.specs.TraceText.{stride_lines}
use Rattle.program_replay.specs.CoverageOf.{HasSeen}
use Rattle.program_replay.specs.Following.{IsFollowing, state_of, used_so_far, waits_of}
use Rattle.program_replay.proofs.tracing.put_steps.Given as goal

-- the lines of the strides so far were put
abbrev pub invariant-loop-verdict : goal.invariant-loop-verdict
invariant-loop-verdict g l = record {
  strides : List Stride;
  so_far : IsFollowing (setting l.deck l.times l.notes) (state_of l.fn.following) (waits_of l.fn.following) l.most
      strides l.following;
  seen : HasSeen l.notes strides l.coverage;
  passes : Passes (g.O.Output.device l.fn.out) l.fn.sheet (g.O.Output.device l.out) l.sheet
      (stride_lines (entry_in l.times) 1 strides);
}

-- each step uses time
abbrev pub decreases-loop-verdict : goal.decreases-loop-verdict
decreases-loop-verdict g l = l.most + 1 - used_so_far l.following

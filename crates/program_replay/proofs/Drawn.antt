-- A replay before its first step, and the verdict on one that is drawn.
use Rattle.std.proofs.Common.{◌≡◌, ℕ, List, length, sym, subst, Result, Ok, Err, IfErr}
use Rattle.std.specs.Prelude.{IfOk}
use Rattle.base_notes.specs.declared.times.Times.{Times}
use Rattle.machine_steps.specs.Run.{Stride}
use Rattle.flow_graph.specs.Bounded.{IsBounded}
use Rattle.flow_graph.specs.Walk.{Setting}
use Rattle.flow_walks.specs.Worst.{IsWorst}
use Rattle.print_lines.specs.declared.fault.Fault as fails
use Rattle.print_lines.specs.declared.fault.Fault.TheVariants as fault
use Rattle.print_lines.specs.declared.limit.Limit as limits
use Rattle.machine_steps.specs.declared.verdict.Verdict.{Verdict}
use Rattle.program_replay.specs.declared.replaying.Begun.{Begun}
use Rattle.program_replay.specs.Begun.{IsBegun, IsReplayBegun}
use Rattle.program_replay.specs.Following.{IsFollowed, state_of, waits_of}
use Rattle.program_replay.specs.Replay.{Given, HasReplay, IsJudged, IsReplayFault}
use Rattle.program_replay.proofs.Beginning.{judged_followed}

-- a run that is begun by the bound is a replay's
pub replay_begun : (at : Times → Setting) (times : Times) (given : Given) (by : limits.Limit) (most : ℕ)
    (result : Result Begun fails.Fault) → HasReplay (at times) given → IsWorst (at times) most → IsBounded (at times) most
    → IfOk result (λ begun. (times : Times) → IsBounded (at times) most → IsBegun (at times) given begun)
    → IfOk result (λ begun. (begun.limit ≡ by) × (begun.most ≡ most))
    → IfOk result (IsReplayBegun (at times) given)
replay_begun at times given by most (Ok begun) has worst bounded begins limited = record {
  begun_of = begins times bounded;
  has = has;
  worst = subst (IsWorst (at times)) (sym limited.1) worst;
}
replay_begun at times given by most (Err fault) has worst bounded begins limited = tt

-- and lack of memory for it is a replay's fault
pub replay_wanting : (g : Setting) (given : Given) (result : Result Begun fails.Fault) → HasReplay g given
    → IfErr result (λ told. told ≡ fault.Memory) → IfErr result (IsReplayFault g given)
replay_wanting g given (Ok begun) has is = tt
replay_wanting g given (Err told) has is = subst (IsReplayFault g given) (sym is) has

-- the verdict on a run that is followed to its end, where there is memory for it
pub judged_ok : (g : Setting) (given : Given) (begun : Begun) → IsBegun g given begun
    → {E : Type 0} → (result : Result Verdict E)
    → IfOk result (λ verdict. (strides : List Stride)
    × IsFollowed g (state_of begun.following) (waits_of begun.following) begun.most strides verdict)
    → IfOk result (λ verdict. (step : ℕ) × IsJudged g given begun.most step verdict)
judged_ok g given begun is (Ok verdict) (strides, followed) =
    (length strides, judged_followed g given begun is strides verdict followed)
judged_ok g given begun is (Err none) followed = tt

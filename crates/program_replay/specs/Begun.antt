-- What is known of a replay before its first step.
use Rattle.std.specs.Prelude.{◌≡◌, ◌^◌, ◌<◌, [], Some, None}
use Rattle.machine_steps.specs.declared.left.Left as lefts
use Rattle.machine_steps.specs.declared.left.Left.TheVariants as left
use Rattle.machine_steps.specs.Keeps.{IsAsDeclared}
use Rattle.flow_graph.specs.Walk.{Setting}
use Rattle.flow_graph.specs.Bounded.{IsBounded}
use Rattle.flow_walks.specs.Worst.{IsWorst}
use Rattle.machine_steps.specs.declared.verdict.Verdict.{Verdict}
use Rattle.machine_steps.specs.declared.verdict.Verdict.TheVariants.{Left}
use Rattle.read_documents.specs.declared.documents.Documents.{Documents}
use Rattle.program_limits.specs.Limits.{IsLimit}
use Rattle.read_documents.specs.Documents.{setting_of}
use Rattle.program_replay.specs.declared.replaying.Begun.{Begun}
use Rattle.program_replay.specs.declared.replaying.BegunTrace.{BegunTrace}
use Rattle.program_replay.specs.CoverageOf.{HasSeen}
use Rattle.program_replay.specs.Following.{AreGiven, CanBegin, IsFollowing, state_of, waits_of}
use Rattle.program_replay.specs.Replay.{Given, HasOwnWords, HasReplay}

-- the verdict on a run that leaves the notes before any step
abbrev pub left_before : lefts.Left → Verdict
left_before what = Left what 0 0

-- It can be followed, unless its verdict comes before any step.
pub record IsReady (g : Setting) (begun : Begun) : Type 0 where
  pub bounded : IsBounded g begun.most
  pub below : begun.most < 2 ^ 50
  pub angle : (state_of begun.following).first_angle ≡ begun.angle
  pub begins : begun.verdict ≡ None → CanBegin g (state_of begun.following)
  pub follows :
      begun.verdict ≡ None
      → IsFollowing g (state_of begun.following) (waits_of begun.following) begun.most []
      begun.following

-- It is that of what is given.
pub record IsBegun (g : Setting) (given : Given) (begun : Begun) : Type 0 where
  pub ready : IsReady g begun
  pub are : AreGiven g given (state_of begun.following) (waits_of begun.following)
  pub before :
      (verdict : Verdict) → begun.verdict ≡ Some verdict
      → (verdict ≡ left_before left.Switch)
      × ¬ IsAsDeclared g.notes.programmed given.setup.programmed

-- It is that of what is given, which has a replay, and what limits it is what any walk takes at
-- most.
pub record IsReplayBegun (g : Setting) (given : Given) (begun : Begun) : Type 0 where
  pub begun_of : IsBegun g given begun
  pub has : HasReplay g given
  pub worst : IsWorst g begun.most

-- It is that of what is given, what limits it is that of the documents, and nothing was seen of it
-- yet.
pub record IsTraceBegun (documents : Documents) (given : Given) (trace : BegunTrace) : Type 0 where
  pub begun_of : IsBegun (setting_of documents) given trace.begun
  pub own_words : HasOwnWords (setting_of documents) given
  pub limited : IsLimit documents trace.begun.limit trace.begun.most
  pub fresh : HasSeen documents.notes [] trace.coverage

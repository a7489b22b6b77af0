-- A run before its first step, and what its verdict is.
use Rattle.std.proofs.Common.{◌≡◌, ℕ, List, length, refl, sym, subst, arith, Option, Some, None}
use Rattle.std.specs.Prelude.{MatchOption, option_map}
use Rattle.machine_steps.specs.declared.left.Left as lefts
use Rattle.machine_steps.specs.declared.left.Left.TheVariants as left
use Rattle.machine_steps.specs.Keeps.{IsAsDeclared}
use Rattle.machine_steps.specs.Run.{Stride}
use Rattle.machine_emulator.specs.declared.setup.Setup.{Setup}
use Rattle.flow_graph.specs.Walk.{Setting}
use Rattle.flow_walks.specs.Worst.{IsWorst}
use Rattle.machine_steps.specs.declared.verdict.Verdict.{Verdict}
use Rattle.program_replay.specs.declared.replaying.Begun.{Begun}
use Rattle.program_replay.specs.Begun.{IsBegun, left_before}
use Rattle.program_replay.specs.Following.{IsFollowed, state_of, waits_of}
use Rattle.program_replay.specs.Replay.{Given, HasReplay, IsJudged, IsReplay, IsVerdict, used_in}

-- how a new monitor answers: not at all, or by the switch
abbrev pub AnswersSwitch : Setting → Setup → Option lefts.Left → Type 0
AnswersSwitch g setup answered = MatchOption answered (IsAsDeclared g.notes.programmed setup.programmed)
    (λ what. (what ≡ left.Switch) × ¬ IsAsDeclared g.notes.programmed setup.programmed)

-- no verdict is no answer,
pub no_answer : (answered : Option lefts.Left) → option_map left_before answered ≡ None → answered ≡ None
no_answer None none = refl
no_answer (Some what) none = cc

-- and a verdict is that of the switch
pub of_switch : (g : Setting) (setup : Setup) (answered : Option lefts.Left) (verdict : Verdict)
    → AnswersSwitch g setup answered
    → option_map left_before answered ≡ Some verdict
    → (verdict ≡ left_before left.Switch) × ¬ IsAsDeclared g.notes.programmed setup.programmed
of_switch g setup None verdict answers is = cc
of_switch g setup (Some what) verdict answers is =
    let same : left_before what ≡ verdict = cc in
    (subst (λ (way : lefts.Left). verdict ≡ left_before way) answers.0 (sym same), answers.1)

module _ (g : Setting) (given : Given) (begun : Begun) (is : IsBegun g given begun) where
  -- the verdict that comes before any step
  says_before : (verdict : Verdict) → begun.verdict ≡ Some verdict → IsVerdict g given begun.most 0 verdict
      × (used_in verdict ≡ 0)
  says_before verdict at =
      let before = is.before verdict at in
      subst (λ (one : Verdict). IsVerdict g given begun.most 0 one × (used_in one ≡ 0)) (sym before.0)
      ((refl, (before.1, refl, refl)), refl)

  pub judged_before : (verdict : Verdict) → begun.verdict ≡ Some verdict → IsJudged g given begun.most 0 verdict
  judged_before verdict at =
      let says = says_before verdict at in record { says = says.0; within = omega (arith, says.1); short = omega arith }

  -- the verdict of a run that was followed
  pub judged_followed : (strides : List Stride) (verdict : Verdict)
      → IsFollowed g (state_of begun.following) (waits_of begun.following) begun.most strides verdict
      → IsJudged g given begun.most (length strides) verdict
  judged_followed strides verdict followed = record {
    says = followed.says given is.are;
    within = followed.within;
    short = followed.short;
  }

-- what is the verdict of a run is that of a replay
pub replay_of : (g : Setting) (given : Given) (worst most step : ℕ) (verdict : Verdict) → HasReplay g given
    → IsWorst g worst → most ≡ worst → IsJudged g given most step verdict → IsReplay g given verdict
replay_of g given worst most step verdict has is_worst same judged = record {
  has = has;
  worst = worst;
  is_worst = is_worst;
  step = step;
  judged = subst (λ (limit : ℕ). IsJudged g given limit step verdict) same judged;
}

-- Of put_steps: what was put are the lines of the strides so far, which keep to the notes. Each step
-- that goes on uses some time, and the limit bounds it, so the loop ends.
use Rattle.std.proofs.Common.{◌≡◌, ℕ, ◌+◌, List, ◌∷◌, ◌++◌, length, refl, ap, sym, subst, ◌∙◌, arith, Option, []}
use Rattle.std.specs.Prelude.{MatchOption}
use Rattle.read_decks.specs.InDeck.{loads_in}
use Rattle.base_devices.specs.Device.{Device}
use Rattle.machine_steps.specs.Counts.{AreWithin, no_counts}
use Rattle.machine_steps.specs.Run.{Stride}
use Rattle.machine_steps.specs.Step.{State, contents_after}
use Rattle.machine_steps.specs.declared.verdict.Verdict.{Verdict}
use Rattle.machine_emulator.specs.Feed.{cards_left}
use Rattle.machine_emulator.specs.Machine.{IsToldOf, held_by}
use Rattle.machine_emulator.specs.declared.step.Step.{Step}
use Rattle.machine_emulator.proofs.Watching.{kept_within, zeros_within}
use Rattle.flow_graph.specs.SettingOf.{setting}
use Rattle.flow_graph.specs.Walk.{Setting}
use Rattle.print_lines.specs.declared.sheet.Sheet.{Sheet}
use Rattle.print_lines.specs.Stands.{Passes}
use Rattle.print_lines.proofs.Passing.{◌⊳◌, passes_as}
use Rattle.print_hops.specs.StepOf.{IsStepOf}
use Rattle.print_hops.specs.TraceText.{stride_line, stride_lines}
use Rattle.program_replay.specs.Following.{IsFollowed, IsFollowing, state_of, stride_of, used_so_far, waits_of}
use Rattle.program_replay.specs.declared.following.Following.{Following}
use Rattle.program_replay.proofs.Followed.{as_declared}
use Rattle.program_replay.proofs.Traced.{lead_start, lines_more}
use Rattle.program_replay.proofs.tracing.put_steps.Goals as goal

-- the line of one step more stands behind those that were put
behind : (g : Setting) (s : State) (waits : List ℕ) (most angle used : ℕ) (strides : List Stride) (before next : Following)
    (step : Step) {from between to : Device} {sheet sheet' sheet″ : Sheet}
    → IsFollowing g s waits most strides before → s.first_angle ≡ angle → used ≡ used_so_far before
    → IsToldOf g.times (stride_of g.times before) step
    → held_by next.machine (cards_left next.feed) ≡ contents_after (stride_of g.times before).outcome
    → next.steps ≡ before.steps + 1 → Passes from sheet between sheet' (stride_lines g.times 1 strides)
    → ((stride : Stride) → IsStepOf g.times angle used step next.machine stride
    → Passes between sheet' to sheet″ (stride_line g.times next.steps stride))
    → Passes from sheet to sheet″ (stride_lines g.times 1 (strides ++ stride_of g.times before ∷ []))
behind g s waits most angle used strides before next step so_far start time told held steps passes put =
    let stride = stride_of g.times before in
    let number : next.steps ≡ 1 + length strides = omega (arith, steps, so_far.counted) in
    passes_as (ap (λ (n : ℕ). stride_lines g.times 1 strides ++ stride_line g.times n stride) number
    ∙ sym (lines_more g.times 1 strides stride)) (passes ⊳ put stride record {
      told = told;
      start = lead_start g.times s waits strides (state_of before) (waits_of before) so_far.lead ∙ start;
      time = sym time;
      cards = cards_left next.feed;
      held = held;
    })

pub see-requires-clause-within : goal.see-requires-clause-within
see-requires-clause-within g c =
    let notes = c.args.notes.now in
    let marks = notes.marks in
    let so_far = c.loop-verdict.invariant.so_far in
    subst (AreWithin marks) (sym c.loop-verdict.invariant.seen.counts)
    (kept_within (loads_in c.args.deck.now) notes (no_counts marks) c.loop-verdict.invariant.strides so_far.seen.kept
    (zeros_within marks))

pub returns-in-Some-clause-passes : goal.returns-in-Some-clause-passes
returns-in-Some-clause-passes g c =
    let all = setting c.args.deck.now c.args.times.now c.args.notes.now in
    let s = state_of c.args.following in
    let waits = waits_of c.args.following in
    let so_far = c.loop-verdict.invariant.so_far in
    let strides = c.loop-verdict.invariant.strides in
    let before = c.loop-verdict.following in
    let stride = stride_of all.times before in
    let more = strides ++ stride ∷ [] in
    let lines = behind all s waits c.args.most c.args.angle c.used-before.result strides before
    c.advance-step.new.self c.advance-step.result.0 so_far c.requires.angle c.used-before.ensures
    (c.advance-step.ensures.told so_far.goes) (c.advance-step.ensures.held so_far.goes) c.advance-step.ensures.steps
    c.loop-verdict.invariant.passes c.put_step.ensures in (
      more,
      subst (λ (o : Option Verdict). MatchOption o (IsFollowing all s waits c.args.most more c.advance-step.new.self)
          (IsFollowed all s waits c.args.most more))
          c.in-Some.is (c.advance-step.ensures.advanced s waits strides c.requires.begins c.requires.bounded so_far),
      lines,
      c.see.ensures all.times strides stride c.loop-verdict.invariant.seen
          (c.advance-step.ensures.told so_far.goes),
    )

pub returns-then-is_lost-clause-passes : goal.returns-then-is_lost-clause-passes
returns-then-is_lost-clause-passes g c =
    let all = setting c.args.deck.now c.args.times.now c.args.notes.now in
    let s = state_of c.args.following in
    let waits = waits_of c.args.following in
    let so_far = c.loop-verdict.invariant.so_far in
    let strides = c.loop-verdict.invariant.strides in
    let before = c.loop-verdict.following in
    let stride = stride_of all.times before in
    let more = strides ++ stride ∷ [] in
    let lines = behind all s waits c.args.most c.args.angle c.used-before.result strides before
    c.advance-step.new.self c.advance-step.result.0 so_far c.requires.angle c.used-before.ensures
    (c.advance-step.ensures.told so_far.goes) (c.advance-step.ensures.held so_far.goes) c.advance-step.ensures.steps
    c.loop-verdict.invariant.passes c.put_step.ensures in (
      more,
      (
        strides,
        stride,
        refl,
        λ given are. record {
          declared = as_declared all s waits c.args.most c.requires.begins c.requires.bounded given are;
          replayed = c.advance-step.ensures.of_run s waits strides c.requires.begins c.requires.bounded so_far given are;
          kept = so_far.seen.kept;
          back = so_far.seen.back;
        },
      ),
      lines,
      tt,
    )

pub loop-verdict-preserved : goal.loop-verdict-preserved
loop-verdict-preserved g c =
    let all = setting c.args.deck.now c.args.times.now c.args.notes.now in
    let s = state_of c.args.following in
    let waits = waits_of c.args.following in
    let so_far = c.loop-verdict.invariant.so_far in
    let strides = c.loop-verdict.invariant.strides in
    let before = c.loop-verdict.following in
    let stride = stride_of all.times before in
    let more = strides ++ stride ∷ [] in
    let lines = behind all s waits c.args.most c.args.angle c.used-before.result strides before
    c.advance-step.new.self c.advance-step.result.0 so_far c.requires.angle c.used-before.ensures
    (c.advance-step.ensures.told so_far.goes) (c.advance-step.ensures.held so_far.goes) c.advance-step.ensures.steps
    c.loop-verdict.invariant.passes c.put_step.ensures in
    record {
      strides = more;
      so_far =
          subst (λ (o : Option Verdict). MatchOption o
          (IsFollowing all s waits c.args.most more c.advance-step.new.self)
          (IsFollowed all s waits c.args.most more))
          c.in_default.is (c.advance-step.ensures.advanced s waits strides c.requires.begins c.requires.bounded so_far);
      seen =
          c.see.ensures all.times strides stride c.loop-verdict.invariant.seen
          (c.advance-step.ensures.told so_far.goes);
      passes = lines;
    }

-- The lines of a run's steps, and the verdict behind them.
use Rattle.std.proofs.Common.{◌≡◌, ℕ, suc, ◌+◌, ◌-◌, Bool, true, false, not, List, ◌∷◌, ◌++◌, length, ap, sym, []}
use Rattle.std.proofs.Common.{◌∙◌, arith, append_assoc, append-nil, Option, Some, None}
use Rattle.std.specs.Prelude.{MatchOption, if◌then◌else◌}
use Rattle.base_words.specs.declared.op.Op.{Op}
use Rattle.base_words.specs.Location.{is_location}
use Rattle.base_words.specs.Op.{op_of, operand_of, is_operand}
use Rattle.base_notes.specs.declared.entry.Entry.{Entry}
use Rattle.machine_steps.specs.Run.{Stride}
use Rattle.machine_steps.specs.Step.{State, Stepped, on, stopped, clock_of, instruction_in, lacks_card, stepped_by, step}
use Rattle.machine_steps.specs.Step.{step_with}
use Rattle.machine_steps.specs.declared.why.Why.TheVariants as why
use Rattle.machine_steps.specs.Effect.{Outcome, effect, goes, stops}
use Rattle.machine_steps.specs.Timing.{ended, ready, units_of}
use Rattle.machine_steps.specs.declared.verdict.Verdict.{Verdict}
use Rattle.machine_emulator.specs.Fed.{op_in, waits_with}
use Rattle.flow_graph.specs.Walk.{Setting}
use Rattle.print_hops.specs.TraceText.{stride_line, stride_lines}
use Rattle.program_replay.specs.declared.replaying.Begun.{Begun}
use Rattle.program_replay.specs.Begun.{IsBegun}
use Rattle.program_replay.specs.Following.{Goes, IsFollowed, Lead, state_of, waits_of}
use Rattle.program_replay.specs.Replay.{Given, IsTraced}
use Rattle.program_replay.proofs.Beginning.{judged_before, judged_followed}

-- one line more
pub lines_more : (times : Op → Entry) (number : ℕ) (strides : List Stride) (stride : Stride)
    → stride_lines times number (strides ++ stride ∷ []) ≡ stride_lines times number strides
    ++ stride_line times (number + length strides) stride
lines_more times number [] stride =
    let same : number + 0 ≡ number = omega arith in
    append-nil (stride_line times number stride) ∙ ap (λ (n : ℕ). stride_line times n stride) (sym same)
lines_more times number (one ∷ strides) stride =
    let same : suc number + length strides ≡ number + suc (length strides) = omega arith in
    ap (λ (rest : List ℕ). stride_line times number one ++ rest)
    (lines_more times (suc number) strides stride
    ∙ ap (λ (n : ℕ). stride_lines times (suc number) strides ++ stride_line times n stride) same)
    ∙ sym (append_assoc (stride_line times number one) (stride_lines times (suc number) strides)
    (stride_line times (number + suc (length strides)) stride))

-- ---- a run keeps its angle at time 0

leaves_start : (s : State) (clock : ℕ) (outcome : Outcome) (next : State) → stepped_by s clock outcome ≡ on next
    → next.first_angle ≡ s.first_angle
leaves_start s clock (stops held because) next is = absurd (let bad = is in cc)
leaves_start s clock (goes contents place) next is = go (is_location place) is
  where
    went : State
    went = record { contents = contents; sought = place; time = clock - s.first_angle; first_angle = s.first_angle }

    go : (b : Bool) → (if b then on went else stopped contents why.Next (clock - s.first_angle)) ≡ on next
        → next.first_angle ≡ s.first_angle
    go true same = let one : went ≡ next = cc in ap (λ (state : State). state.first_angle) (sym one)
    go false same = absurd (let bad = same in cc)

acted_start : (s : State) (x e : ℕ) (outcome : Outcome) (next : State) (wanted lacks : Bool)
    → (if not wanted then stopped s.contents why.Operand (x - s.first_angle)
    else (if lacks then stopped s.contents why.Card (x - s.first_angle) else stepped_by s e outcome)) ≡ on next
    → next.first_angle ≡ s.first_angle
acted_start s x e outcome next false lacks is = absurd (let bad = is in cc)
acted_start s x e outcome next true true is = absurd (let bad = is in cc)
acted_start s x e outcome next true false is = leaves_start s e outcome next is

step_start : (times : Op → Entry) (s : State) (wait : ℕ) (next : State) → step times s wait ≡ on next
    → next.first_angle ≡ s.first_angle
step_start times s wait next is = go (op_of (instruction_in s).op) is
  where
    go : (op : Option Op) → step_with times s wait op ≡ on next → next.first_angle ≡ s.first_angle
    go None same = absurd (let bad = same in cc)
    go (Some op) same =
        let ins = instruction_in s in
        acted_start s (ready (times op) s.sought (clock_of s))
        (ended (times op) op ins.d s.sought (units_of op ins.d s.contents) wait (clock_of s))
        (effect s.contents op ins.d ins.i) next (is_operand (operand_of op) ins.d) (lacks_card op s.contents) same

goes_start : (s : State) (now : State) (outcome reached : Stepped) (Right : State → Type 0) → outcome ≡ reached
    → ((next : State) → reached ≡ on next → next.first_angle ≡ s.first_angle)
    → ((next : State) → Right next → now.first_angle ≡ next.first_angle)
    → Goes outcome Right → now.first_angle ≡ s.first_angle
goes_start s now (on next) reached Right is here later onward = later next onward ∙ here next (sym is)
goes_start s now (stopped held because moment) reached Right is here later onward = absurd onward

-- strides that lead on keep it
pub lead_start : (times : Op → Entry) (s : State) (waits : List ℕ) (strides : List Stride) (now : State) (left : List ℕ)
    → Lead times s waits strides now left → now.first_angle ≡ s.first_angle
lead_start times s waits [] now left lead = ap (λ (state : State). state.first_angle) (sym lead.0)
lead_start times s waits (stride ∷ strides) now left lead =
    goes_start s now stride.outcome (step times s stride.wait)
    (λ next. Lead times next (waits_with (op_in stride.origin) stride.origin waits) strides now left) lead.0.stepped
    (λ next is. step_start times s stride.wait next is)
    (λ next rest. lead_start times next (waits_with (op_in stride.origin) stride.origin waits) strides now left rest) lead.2

-- ---- what a trace is

module _ (g : Setting) (given : Given) (begun : Begun) (is : IsBegun g given begun) where
  -- no strides, where the verdict comes before any,
  pub traced_before : (verdict : Verdict) → begun.verdict ≡ Some verdict → IsTraced g given begun.most [] verdict
  traced_before verdict at = record {
    judged = judged_before g given begun is verdict at;
    replayed = record {
      first = state_of begun.following;
      set_up = is.are.set_up;
      reader = is.are.reader;
      run = tt;
      fed = tt;
    };
  }

  -- and else those that were followed
  pub traced_followed : (strides : List Stride) (verdict : Verdict)
      → IsFollowed g (state_of begun.following) (waits_of begun.following) begun.most strides verdict
      → IsTraced g given begun.most strides verdict
  traced_followed strides verdict followed = record {
    judged = judged_followed g given begun is strides verdict followed;
    replayed = followed.of_run given is.are;
  }

-- what is known of a value, or where there is none
pub either_map : {A : Type 0} {N N' : Type 0} {P P' : A → Type 0} (result : Option A) → MatchOption result N P
    → (N → N') → ((a : A) → P a → P' a) → MatchOption result N' P'
either_map None p f h = f p
either_map (Some a) p f h = h a p

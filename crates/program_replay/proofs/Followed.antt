-- How a run is followed, step by step.
use Rattle.std.proofs.Common.{◌≡◌, ℕ, ◌+◌, ◌<◌, ◌≤◌, List, [], ◌∷◌, ◌++◌, length, refl, ap, sym, subst, ◌∙◌, arith}
use Rattle.std.proofs.Common.{length-append, Option, Some, None}
use Rattle.std.specs.Prelude.{MatchOption}
use Rattle.base_words.specs.declared.location.Location.{Location}
use Rattle.base_words.specs.declared.word.Word.{Word}
use Rattle.machine_steps.specs.declared.card.Card.{Card}
use Rattle.machine_steps.specs.declared.left.Left as lefts
use Rattle.machine_steps.specs.declared.left.Left.TheVariants as left
use Rattle.machine_steps.specs.declared.why.Why as whys
use Rattle.machine_steps.specs.Contents.{Contents}
use Rattle.machine_steps.specs.Counts.{no_counts}
use Rattle.machine_steps.specs.Keeps.{open_behind, IsAsDeclared, Leaves, reads_load}
use Rattle.machine_steps.specs.Keeps.{counts_over}
use Rattle.machine_steps.specs.Run.{Stride, IsFirstState, time_after, used_from}
use Rattle.machine_steps.specs.Step.{State, Stepped, on, stopped, contents_after, fetched}
use Rattle.machine_emulator.specs.declared.feed.Feed.{Feed}
use Rattle.machine_emulator.specs.declared.machine.Machine.{Machine}
use Rattle.machine_emulator.specs.declared.setup.Setup.{Setup}
use Rattle.machine_emulator.specs.declared.step.Step as answers
use Rattle.machine_emulator.specs.declared.step.Step.TheVariants as answer
use Rattle.machine_emulator.specs.FirstState.{IsSetUp}
use Rattle.machine_emulator.specs.Feed.{cards_left, waits_left}
use Rattle.machine_emulator.specs.Fed.{op_in}
use Rattle.machine_emulator.specs.Machine.{GoesOn, Tells, Becomes, TakesStep, state_in, used_by, sought_by}
use Rattle.machine_emulator.specs.Machine.{held_by, punched_with}
use Rattle.machine_emulator.specs.Machine.{IsToldOf}
use Rattle.machine_emulator.specs.declared.monitor.Monitor.{Monitor}
use Rattle.machine_emulator.specs.Monitor.{HasSeenKept, answer_of}
use Rattle.flow_graph.specs.Walk.{Setting}
use Rattle.flow_graph.specs.Bounded.{IsBounded}
use Rattle.machine_steps.specs.declared.verdict.Verdict.TheVariants.{Kept, Left}
use Rattle.program_replay.specs.declared.following.Following.{Following}
use Rattle.program_replay.specs.Following.{CanBegin, AreGiven, AreOfRun, IsFollowed, IsFollowing, state_of}
use Rattle.program_replay.specs.Following.{waits_of, stride_of, used_so_far}
use Rattle.program_replay.specs.Replay.{Given, AreFed, IsLeft, IsUnderWay, LeavesAt}
use Rattle.program_replay.proofs.Leading.{lead_run, lead_fed, lead_more, lead_used, used_more}

-- A state that is set up is one in which a kept run may begin, where a new monitor has no answer.
pub can_begin : (g : Setting) (setup : Setup) (s : State) (answered : Option lefts.Left)
    → IsSetUp g.loads g.start setup s → IsFirstState g.loads (λ _. Unit {0}) g.start s
    → MatchOption answered (IsAsDeclared g.notes.programmed setup.programmed)
    (λ what. (what ≡ left.Switch) × ¬ IsAsDeclared g.notes.programmed setup.programmed)
    → answered ≡ None → CanBegin g s
can_begin g setup s None set_up first declared none = record {
  first = record {
    at_once = first.at_once;
    seeks = first.seeks;
    angle = first.angle;
    whole = first.whole;
    agrees = λ place w fixed loaded. first.agrees place w tt loaded;
  };
  declared = subst (IsAsDeclared g.notes.programmed) (sym set_up.programmed) declared;
}
can_begin g setup s (Some what) set_up first declared none = absurd (cc)

-- nothing is followed yet
pub none_yet : (g : Setting) (bound : ℕ) (f : Following) → CanBegin g (state_of f)
    → HasSeenKept g.loads g.notes f.monitor []
    → answer_of f.monitor ≡ None → GoesOn f.machine → f.steps ≡ 0 → IsFollowing g (state_of f) (waits_of f) bound [] f
none_yet g bound f begins seen silent goes none = record {
  lead = (refl, refl);
  seen = seen;
  silent = silent;
  goes = goes;
  within = omega (arith, begins.first.at_once);
  counted = none;
  each_takes_time = omega (arith, none);
}

-- how many strides there are, with one more
counts_more : (strides : List Stride) (stride : Stride) (number : ℕ) → number ≡ length strides
    → number + 1 ≡ length (strides ++ stride ∷ [])
counts_more strides stride number counted = omega (arith, counted, length-append strides (stride ∷ []))

-- what a machine holds after a step
pub held_after : (outcome : Stepped) (origin : Location) (word : Word) (after : Machine) (cards : List Card)
    → Becomes outcome origin word after cards → held_by after cards ≡ contents_after outcome
held_after (on next) origin word after cards is = ap (λ (s : State). s.contents) is.1
held_after (stopped held because moment) origin word after cards is = is.3

module _ (g : Setting) where
  -- what is answered tells of the stride
  pub told : (before : Following) (said : answers.Step) (after : Machine) (rest : Feed)
      → TakesStep g.times before.machine before.feed said after rest → IsToldOf g.times (stride_of g.times before) said
  told before said after rest takes =
      let now : State = state_of before in
      record {
        stepped = refl;
        origin = sought_by before.machine;
        sought = refl;
        punched = punched_with (op_in now) now;
        tells = takes.tells;
      }

  module _ (first : State) (waits : List ℕ) (bound : ℕ) (begins : CanBegin g first) (bounded : IsBounded g bound) where
    -- the notes and what is given agree on the programmed switch
    pub as_declared : (given : Given) → AreGiven g given first waits
        → IsAsDeclared g.notes.programmed given.setup.programmed
    as_declared given are = subst (IsAsDeclared g.notes.programmed) are.set_up.programmed begins.declared

    module _ (strides : List Stride) (before : Following) (following : IsFollowing g first waits bound strides before) where
      -- the state, the waits and the stride of the step that is taken
      abbrev now : State
      now = state_of before

      abbrev left_waits : List ℕ
      left_waits = waits_of before

      abbrev stride : Stride
      stride = stride_of g.times before

      -- the counts after the strides so far, and they with this one
      abbrev counts : List ℕ
      counts = counts_over g.notes (no_counts g.notes.marks) strides

      abbrev more : List Stride
      more = strides ++ stride ∷ []

      -- an answer tells of an outcome
      abbrev TellsOf : Stepped → answers.Step → Type 0
      TellsOf outcome answered =
          Tells outcome (sought_by before.machine) (fetched now) (reads_load now) (punched_with (op_in now) now)
          answered

      module _ (said : answers.Step) (after : Machine) (rest : Feed)
          (takes : TakesStep g.times before.machine before.feed said after rest) where
        -- they use no more than the bound, where they are seen,
        seen_bounded : (seer : Monitor) → HasSeenKept g.loads g.notes seer more → time_after stride.outcome ≤ bound
        seen_bounded seer seen =
            subst (λ (used : ℕ). used ≤ bound) (used_more 0 strides stride)
            (bounded first more begins.first
            (lead_run g.times first waits strides now left_waits takes.may_wait following.lead)
            (record { declared = begins.declared; kept = seen.kept; back = seen.back }))

        -- and are the first of the run that is fixed by what is given
        pub replayed : AreOfRun g first waits more
        replayed given are = record {
          first = first;
          set_up = are.set_up;
          reader = are.reader;
          run = lead_run g.times first waits strides now left_waits takes.may_wait following.lead;
          fed = subst (λ (all : List ℕ). AreFed g.times all more) are.feed
              (lead_fed g.times first waits strides now left_waits following.lead);
        }

        -- they are under way, up to this one
        pub under_way : (given : Given) → AreGiven g given first waits → IsUnderWay g given strides stride
        under_way given are = record {
          declared = as_declared given are;
          replayed = replayed given are;
          kept = following.seen.kept;
          back = following.seen.back;
        }

        -- the run as it is followed further
        abbrev further : Monitor → Following
        further seer = record { machine = after; monitor = seer; feed = rest; steps = before.steps + 1 }

        -- A step that doesn't stop, and doesn't leave the notes, is followed.
        pub goes_on : (seer : Monitor) → HasSeenKept g.loads g.notes seer more → answer_of seer ≡ None
            → (GoesOn after → used_so_far before < used_by after)
            → ((origin : Location) (word : Word) (because : whys.Why) (used : ℕ)
            → said ≡ answer.Stopped origin word because used → ⊥)
            → IsFollowing g first waits bound more (further seer)
        goes_on seer seen silent later goes = go stride.outcome refl takes.tells takes.becomes
          where
            go : (outcome : Stepped) → stride.outcome ≡ outcome → TellsOf outcome said
                → Becomes outcome (sought_by before.machine) (fetched now) after (cards_left rest)
                → IsFollowing g first waits bound more (further seer)
            go (on next) is tells becomes =
                let then : State = state_in after (cards_left rest) in
                let onto : stride.outcome ≡ on then = is ∙ ap on (sym becomes.1) in
                record {
                  lead = lead_more g.times first waits strides now left_waits then (waits_left rest) takes.may_wait
                      following.lead onto (sym takes.waits);
                  seen = seen;
                  silent = silent;
                  goes = becomes.0;
                  within = subst (λ (used : ℕ). used ≤ bound) (ap time_after onto) (seen_bounded seer seen);
                  counted = counts_more strides stride before.steps following.counted;
                  each_takes_time = omega (arith, later becomes.0, following.each_takes_time);
                }
            go (stopped held because moment) is tells becomes =
                absurd (goes (sought_by before.machine) (fetched now) because moment tells)

        few : length more ≤ bound + 1
        few =
            omega (
              arith,
              following.counted,
              following.each_takes_time,
              following.within,
              length-append strides
                  (stride ∷ []),
            )

        number : before.steps + 1 ≡ length more
        number = counts_more strides stride before.steps following.counted

        -- A step that stops, and doesn't leave the notes, is the last.
        pub stops_here : (seer : Monitor) → HasSeenKept g.loads g.notes seer more
            → (origin : Location) (word : Word) (because : whys.Why) (used : ℕ)
            → said ≡ answer.Stopped origin word because used
            → IsFollowed g first waits bound more (Kept used bound because)
        stops_here seer seen origin word because used stops =
            let is : stride.outcome ≡ stopped (contents_after stride.outcome) because used =
            go stride.outcome refl (subst (TellsOf stride.outcome) stops takes.tells) in
            record {
              says = λ given are. (
                refl,
                record {
                  declared = as_declared given are;
                  strides = strides;
                  last = stride;
                  replayed = replayed given are;
                  kept = seen.kept;
                  back = seen.back;
                  held = contents_after stride.outcome;
                  stops = is;
                  number = length-append strides (stride ∷ []);
                },
              );
              of_run = replayed;
              within = subst (λ (time : ℕ). time ≤ bound) (ap time_after is) (seen_bounded seer seen);
              short = few;
            }
          where
            go : (outcome : Stepped) → stride.outcome ≡ outcome
                → TellsOf outcome (answer.Stopped origin word because used)
                → stride.outcome ≡ stopped (contents_after stride.outcome) because used
            go (on next) is tells = absurd tells
            go (stopped held why moment) is tells =
                let same : why ≡ because = cc in
                let at : moment ≡ used = cc in
                let holds : held ≡ contents_after stride.outcome = ap contents_after (sym is) in
                is ∙ ap (λ (c : Contents). stopped c why moment) holds
                ∙ ap (λ (w : whys.Why). stopped (contents_after stride.outcome) w moment) same
                ∙ ap (stopped (contents_after stride.outcome) because) at

        -- A step that leaves the notes is the last.
        pub leaves_here : (what : lefts.Left) → Leaves g.loads g.notes counts (open_behind g.notes strides) stride what
            → IsFollowed g first waits bound more (Left what (before.steps + 1) (used_so_far before))
        leaves_here what leaves = record {
          says = λ given are. (number, go what given (at given are) leaves);
          of_run = replayed;
          within = following.within;
          short = few;
        }
          where
            at : (given : Given) → AreGiven g given first waits
                → LeavesAt g given (length more) (used_so_far before) what
            at given are = record {
              strides = strides;
              last = stride;
              under_way = under_way given are;
              leaves = leaves;
              number = length-append strides (stride ∷ []);
              time = sym (subst (λ (time : ℕ). used_from time strides ≡ used_so_far before) begins.first.at_once
                  (lead_used g.times first waits strides now left_waits following.lead));
            }

            go : (way : lefts.Left) (given : Given) → LeavesAt g given (length more) (used_so_far before) way
                → Leaves g.loads g.notes counts (open_behind g.notes strides) stride way → IsLeft g given (length more) (used_so_far before) way
            go (left.Unlisted location word) given is_at told_so = is_at
            go (left.NotBack exit onto) given is_at told_so = is_at
            go (left.TooOften from onto) given is_at told_so = is_at
            go left.Switch given is_at told_so = absurd told_so
            go left.LoadCard given is_at told_so = is_at

-- A setup and a feed fix one run.
use Rattle.std.proofs.Common.{◌≡◌, ℕ, zero, suc, ◌<◌, List, [], ◌∷◌, length, take, refl, ap, sym, subst, ◌∙◌, arith}
use Rattle.std.proofs.Common.{Bool, ℤ, Option, Some}
use Rattle.std.specs.Prelude.{slice_get}
use Rattle.base_words.specs.declared.op.Op.{Op}
use Rattle.base_words.specs.declared.word.Word.{Word}
use Rattle.base_notes.specs.declared.entry.Entry.{Entry}
use Rattle.machine_steps.specs.declared.card.Card.{Card}
use Rattle.machine_steps.specs.Contents.{Contents}
use Rattle.machine_steps.specs.Run.{Stride, IsStride, IsRun, FollowStep}
use Rattle.proved_laws.proofs.Prefixes.{run_prefix}
use Rattle.machine_steps.specs.Step.{State, Stepped, on, stopped, step}
use Rattle.machine_emulator.specs.FirstState.{IsFirstDrum, IsSetUp}
use Rattle.machine_emulator.specs.Fed.{op_in, wait_with, waits_with}
use Rattle.flow_graph.specs.Walk.{Setting}
use Rattle.program_replay.specs.Replay.{Given, AreFed, IsReplayed}
use Rattle.program_replay.specs.Following.{stride_at}

-- lists that are as long and have the same at each place are one
same_places : (xs ys : List Word) → length xs ≡ length ys → ((k : ℕ) → k < length xs → slice_get xs k ≡ slice_get ys k)
    → xs ≡ ys
same_places [] [] long same = refl
same_places [] (y ∷ ys) long same = absurd (omega (arith, long))
same_places (x ∷ xs) [] long same = absurd (omega (arith, long))
same_places (x ∷ xs) (y ∷ ys) long same =
    let first : Some x ≡ Some y = same 0 (omega arith) in
    let rest : xs ≡ ys = same_places xs ys (omega (arith, long)) (λ k below. same (suc k) (omega (arith, below))) in
    cc

-- values that agree in what they hold are one
contents_alike : (made : List Word → Word → Word → ℤ → Option Bool → Bool → Bool → Bool → List Card → Contents)
    (a b : Contents) → a.drum ≡ b.drum
    → a.switches ≡ b.switches → a.distributor ≡ b.distributor → a.accumulator ≡ b.accumulator
    → a.remainder ≡ b.remainder → a.latch ≡ b.latch
    → a.programmed_stops ≡ b.programmed_stops → a.overflow_stops ≡ b.overflow_stops → a.cards ≡ b.cards
    → made a.drum a.switches a.distributor a.accumulator a.remainder a.latch a.programmed_stops a.overflow_stops a.cards
    ≡ made b.drum b.switches b.distributor b.accumulator b.remainder b.latch b.programmed_stops b.overflow_stops b.cards
contents_alike made a b drum switches distributor accumulator remainder latch programmed overflow cards = cc

contents_of : List Word → Word → Word → ℤ → Option Bool → Bool → Bool → Bool → List Card → Contents
contents_of drum switches distributor accumulator remainder latch programmed overflow cards = record {
  drum = drum;
  switches = switches;
  distributor = distributor;
  accumulator = accumulator;
  remainder = remainder;
  latch = latch;
  programmed_stops = programmed;
  overflow_stops = overflow;
  cards = cards;
}

same_contents : (a b : Contents) → a.drum ≡ b.drum → a.switches ≡ b.switches → a.distributor ≡ b.distributor
    → a.accumulator ≡ b.accumulator
    → a.remainder ≡ b.remainder → a.latch ≡ b.latch → a.programmed_stops ≡ b.programmed_stops
    → a.overflow_stops ≡ b.overflow_stops
    → a.cards ≡ b.cards → a ≡ b
unfolding contents_of
same_contents a b drum switches distributor accumulator remainder latch programmed overflow cards =
    contents_alike contents_of a b drum switches distributor accumulator remainder latch programmed overflow cards

state_alike : (made : Contents → ℕ → ℕ → ℕ → State) (s t : State) → s.contents ≡ t.contents → s.sought ≡ t.sought
    → s.time ≡ t.time
    → s.first_angle ≡ t.first_angle → made s.contents s.sought s.time s.first_angle ≡ made t.contents t.sought t.time t.first_angle
state_alike made s t contents sought time start = cc

same_state : (s t : State) → s.contents ≡ t.contents → s.sought ≡ t.sought → s.time ≡ t.time → s.first_angle ≡ t.first_angle → s ≡ t
same_state s t contents sought time start =
    let made : Contents → ℕ → ℕ → ℕ → State =
    λ c next used angle. record { contents = c; sought = next; time = used; first_angle = angle } in
    state_alike made s t contents sought time start

stride_alike : (made : State → ℕ → Stepped → Stride) (a b : Stride) → a.origin ≡ b.origin → a.wait ≡ b.wait
    → a.outcome ≡ b.outcome
    → made a.origin a.wait a.outcome ≡ made b.origin b.wait b.outcome
stride_alike made a b origin wait outcome = cc

same_stride : (a b : Stride) → a.origin ≡ b.origin → a.wait ≡ b.wait → a.outcome ≡ b.outcome → a ≡ b
same_stride a b origin wait outcome =
    let made : State → ℕ → Stepped → Stride = λ s time stepped. record { origin = s; wait = time; outcome = stepped } in
    stride_alike made a b origin wait outcome

-- one drum is set up,
one_drum : (loads : ℕ → Option Word) (given : Given) (drum other : List Word)
    → IsFirstDrum loads given.setup.words.items drum
    → IsFirstDrum loads given.setup.words.items other → drum ≡ other
one_drum loads given drum other is is_other =
    same_places drum other (is.whole ∙ sym is_other.whole) (λ k below.
    let inside : k < 2000 = subst (λ (most : ℕ). k < most) is.whole below in
    is.first k inside ∙ sym (is_other.first k inside))

-- and one first state.
pub one_first : (g : Setting) (given : Given) (s t : State) → IsSetUp g.loads g.start given.setup s
    → s.contents.cards ≡ given.cards
    → IsSetUp g.loads g.start given.setup t → t.contents.cards ≡ given.cards → s ≡ t
one_first g given s t is reader is_other other_reader =
    same_state s t
    (same_contents s.contents t.contents (one_drum g.loads given s.contents.drum t.contents.drum is.drum is_other.drum)
    (is.switches ∙ sym is_other.switches) (is.distributor ∙ sym is_other.distributor)
    (is.accumulator ∙ sym is_other.accumulator)
    (is.remainder ∙ sym is_other.remainder) (is.latch ∙ sym is_other.latch) (is.programmed ∙ sym is_other.programmed)
    (is.on_overflow ∙ sym is_other.on_overflow) (reader ∙ sym other_reader))
    (is.seeks ∙ sym is_other.seeks) (is.at_once ∙ sym is_other.at_once) (is.angle ∙ sym is_other.angle)

module _ (times : Op → Entry) where
  -- a state and the waits fix the stride
  the_stride : (s : State) (waits : List ℕ) (stride : Stride) → IsStride times s stride
      → stride.wait ≡ wait_with times (op_in stride.origin) waits → stride ≡ stride_at times s waits
  the_stride s waits stride is fed =
      let wait : stride.wait ≡ wait_with times (op_in s) waits =
      fed ∙ ap (λ (from : State). wait_with times (op_in from) waits) is.from_here in
      same_stride stride (stride_at times s waits) is.from_here wait (is.stepped ∙ ap (step times s) wait)

  pub one_stride : (s : State) (waits : List ℕ) (stride other : Stride) → IsStride times s stride
      → stride.wait ≡ wait_with times (op_in stride.origin) waits
      → IsStride times s other → other.wait ≡ wait_with times (op_in other.origin) waits → stride ≡ other
  one_stride s waits stride other is fed is_other other_fed =
      the_stride s waits stride is fed ∙ sym (the_stride s waits other is_other other_fed)

  one_rest : (outcome : Stepped) (strides others : List Stride) → FollowStep outcome (λ next. IsRun times next strides) strides
      → FollowStep outcome (λ next. IsRun times next others) others
      → ((next : State) → IsRun times next strides → IsRun times next others → strides ≡ others) → strides ≡ others
  one_rest (on next) strides others follow follow_other so = so next follow follow_other
  one_rest (stopped held because moment) strides others follow follow_other so = follow ∙ sym follow_other

  -- a state and the waits fix the strides, but for how many they are
  one_from : (strides others : List Stride) (s : State) (waits : List ℕ) → IsRun times s strides → AreFed times waits strides
      → IsRun times s others → AreFed times waits others → length strides ≡ length others → strides ≡ others
  one_from [] [] s waits run fed run_other fed_other long = refl
  one_from [] (other ∷ others) s waits run fed run_other fed_other long = absurd (omega (arith, long))
  one_from (stride ∷ strides) [] s waits run fed run_other fed_other long = absurd (omega (arith, long))
  one_from (stride ∷ strides) (other ∷ others) s waits run fed run_other fed_other long =
      let here : other ≡ stride = sym (one_stride s waits stride other run.0 fed.0 run_other.0 fed_other.0) in
      let follow_other : FollowStep stride.outcome (λ next. IsRun times next others) others =
      subst (λ (one : Stride). FollowStep one.outcome (λ next. IsRun times next others) others) here run_other.1 in
      let waits_other : AreFed times (waits_with (op_in stride.origin) stride.origin waits) others =
      subst (λ (one : Stride). AreFed times (waits_with (op_in one.origin) one.origin waits) others) here fed_other.1 in
      let rest : strides ≡ others =
      one_rest stride.outcome strides others run.1 follow_other (λ next runs runs_other.
      one_from strides others next (waits_with (op_in stride.origin) stride.origin waits) runs fed.1 runs_other waits_other
      (omega (arith, long))) in
      cc

pub one_run : (g : Setting) (given : Given) (strides others : List Stride) → IsReplayed g given strides
    → IsReplayed g given others
    → length strides ≡ length others → strides ≡ others
one_run g given strides others is is_other long =
    let same : is_other.first ≡ is.first =
    one_first g given is_other.first is.first is_other.set_up is_other.reader is.set_up is.reader in
    one_from g.times strides others is.first given.waits is.run is.fed
    (subst (λ (s : State). IsRun g.times s others) same is_other.run) is_other.fed long

-- Waits that are fed to strides are fed to the first of them,
fed_prefix : (times : Op → Entry) (waits : List ℕ) (strides : List Stride) (n : ℕ) → AreFed times waits strides
    → AreFed times waits (take n strides)
fed_prefix times waits strides zero fed = tt
fed_prefix times waits [] (suc n) fed = tt
fed_prefix times waits (stride ∷ strides) (suc n) fed =
    (fed.0, fed_prefix times (waits_with (op_in stride.origin) stride.origin waits) strides n fed.1)

-- and so the first strides of a run are those of a shorter one.
pub prefix_replayed : (g : Setting) (given : Given) (strides : List Stride) (n : ℕ) → IsReplayed g given strides
    → IsReplayed g given (take n strides)
prefix_replayed g given strides n is = record {
  first = is.first;
  set_up = is.set_up;
  reader = is.reader;
  run = run_prefix g.times is.first strides n is.run;
  fed = fed_prefix g.times given.waits strides n is.fed;
}

-- Strides that lead on: a prefix of the run that a state and waits fix.
use Rattle.std.proofs.Common.{◌≡◌, ℕ, List, [], ◌∷◌, ◌++◌, refl, ap, sym, subst, ◌∙◌}
use Rattle.base_words.specs.declared.op.Op.{Op}
use Rattle.base_notes.specs.declared.entry.Entry.{Entry}
use Rattle.machine_steps.specs.Run.{Stride, IsStride, IsRun, FollowStep, time_after, used_from}
use Rattle.machine_steps.specs.Step.{State, Stepped, on, stopped, MayWait}
use Rattle.machine_emulator.specs.Fed.{op_in, wait_with, waits_with}
use Rattle.program_replay.specs.Following as spec
use Rattle.program_replay.specs.Following.{Goes}
use Rattle.program_replay.specs.Replay.{AreFed}

goes_any : (outcome : Stepped) (Right : State → Type 0) (Thing : Type 0) → ((next : State) → Right next → Thing)
    → Goes outcome Right → Thing
goes_any (on next) Right Thing so goes = so next goes
goes_any (stopped held because moment) Right Thing so goes = absurd goes

goes_goes : (outcome : Stepped) (Right Other : State → Type 0) → ((next : State) → Right next → Other next)
    → Goes outcome Right → Goes outcome Other
goes_goes (on next) Right Other so goes = so next goes
goes_goes (stopped held because moment) Right Other so goes = absurd goes

goes_follows : (outcome : Stepped) (Right Other : State → Type 0) (strides : List Stride)
    → ((next : State) → Right next → Other next) → Goes outcome Right → FollowStep outcome Other strides
goes_follows (on next) Right Other strides so goes = so next goes
goes_follows (stopped held because moment) Right Other strides so goes = absurd goes

-- the time after strides is that after the last
pub used_more : (time : ℕ) (strides : List Stride) (stride : Stride)
    → used_from time (strides ++ stride ∷ []) ≡ time_after stride.outcome
used_more time [] stride = refl
used_more time (one ∷ strides) stride = used_more (time_after one.outcome) strides stride

module _ (times : Op → Entry) where
  abbrev Lead : State → List ℕ → List Stride → State → List ℕ → Type 0
  Lead s waits strides now left = spec.Lead times s waits strides now left

  abbrev stride_at : State → List ℕ → Stride
  stride_at s waits = spec.stride_at times s waits

  -- the wait that is fed is one that the operation may have
  abbrev pub MayBe : State → List ℕ → Type 0
  MayBe s waits = MayWait times (op_in s) (wait_with times (op_in s) waits)

  is_stride : (s : State) (waits : List ℕ) → MayBe s waits → IsStride times s (stride_at s waits)
  is_stride s waits may = record { from_here = refl; may_wait = may; stepped = refl }

  last_follows : (outcome : Stepped) → FollowStep outcome (λ next. IsRun times next []) []
  last_follows (on next) = tt
  last_follows (stopped held because moment) = refl

  -- one stride more is a run,
  pub lead_run : (s : State) (waits : List ℕ) (strides : List Stride) (now : State) (left : List ℕ) → MayBe now left
      → Lead s waits strides now left
      → IsRun times s (strides ++ stride_at now left ∷ [])
  lead_run s waits [] now left may lead = (
    subst (λ (state : State). IsStride times state (stride_at now left)) (sym lead.0) (is_stride now left may),
    last_follows (stride_at now left).outcome,
  )
  lead_run s waits (stride ∷ strides) now left may lead = (
    lead.0,
    goes_follows stride.outcome (λ next. Lead next (waits_with (op_in stride.origin) stride.origin waits) strides now left)
        (λ next. IsRun times next (strides ++ stride_at now left ∷ [])) (strides ++ stride_at now left ∷ [])
        (λ next rest. lead_run next (waits_with (op_in stride.origin) stride.origin waits) strides now left may rest) lead.2,
  )

  -- which takes the waits,
  pub lead_fed : (s : State) (waits : List ℕ) (strides : List Stride) (now : State) (left : List ℕ)
      → Lead s waits strides now left
      → AreFed times waits (strides ++ stride_at now left ∷ [])
  lead_fed s waits [] now left lead = (ap (λ (rest : List ℕ). wait_with times (op_in now) rest) (sym lead.1), tt)
  lead_fed s waits (stride ∷ strides) now left lead = (
    lead.1,
    goes_any stride.outcome (λ next. Lead next (waits_with (op_in stride.origin) stride.origin waits) strides now left)
        (AreFed times (waits_with (op_in stride.origin) stride.origin waits) (strides ++ stride_at now left ∷ []))
        (λ next rest. lead_fed next (waits_with (op_in stride.origin) stride.origin waits) strides now left rest) lead.2,
  )

  -- and which leads on where it goes on.
  pub lead_more : (s : State) (waits : List ℕ) (strides : List Stride) (now : State) (left : List ℕ) (next : State)
      (rest : List ℕ) → MayBe now left
      → Lead s waits strides now left → (stride_at now left).outcome ≡ on next → waits_with (op_in now) now left ≡ rest
      → Lead s waits (strides ++ stride_at now left ∷ []) next rest
  lead_more s waits [] now left next rest may lead onto over =
      let here : IsStride times s (stride_at now left) =
      subst (λ (state : State). IsStride times state (stride_at now left)) (sym lead.0) (is_stride now left may) in (
        here,
        ap (λ (fed : List ℕ). wait_with times (op_in now) fed) (sym lead.1),
        subst (λ (outcome : Stepped). Goes outcome
            (λ state. (state ≡ next) × (waits_with (op_in now) now waits ≡ rest))) (sym onto)
            (refl, ap (λ (fed : List ℕ). waits_with (op_in now) now fed) lead.1 ∙ over),
      )
  lead_more s waits (stride ∷ strides) now left next rest may lead onto over = (
    lead.0,
    lead.1,
    goes_goes stride.outcome (λ state. Lead state (waits_with (op_in stride.origin) stride.origin waits) strides now left)
        (λ state. Lead state (waits_with (op_in stride.origin) stride.origin waits) (strides ++ stride_at now left ∷ []) next
        rest)
        (λ state leads. lead_more state (waits_with (op_in stride.origin) stride.origin waits) strides now left next rest may
        leads onto over) lead.2,
  )

  used_along : (outcome : Stepped) (strides : List Stride) (now : State) (Right : State → Type 0)
      → ((next : State) → Right next → used_from next.time strides ≡ now.time) → Goes outcome Right
      → used_from (time_after outcome) strides ≡ now.time
  used_along (on next) strides now Right so goes = so next goes
  used_along (stopped held because moment) strides now Right so goes = absurd goes

  -- the time that strides lead to
  pub lead_used : (s : State) (waits : List ℕ) (strides : List Stride) (now : State) (left : List ℕ)
      → Lead s waits strides now left
      → used_from s.time strides ≡ now.time
  lead_used s waits [] now left lead = ap (λ (state : State). state.time) lead.0
  lead_used s waits (stride ∷ strides) now left lead =
      used_along stride.outcome strides now
      (λ next. Lead next (waits_with (op_in stride.origin) stride.origin waits) strides now left)
      (λ next rest. lead_used next (waits_with (op_in stride.origin) stride.origin waits) strides now left rest) lead.2

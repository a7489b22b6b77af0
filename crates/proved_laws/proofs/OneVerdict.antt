-- A setup and a feed fix one verdict.
use Rattle.std.proofs.Common.{◌≡◌, ℕ, ◌+◌, List, [], ◌∷◌, ◌++◌, length, refl, ap, sym, subst, ◌∙◌, inl, inr}
use Rattle.std.specs.Prelude.{◌⊎◌, Option}
use Rattle.base_words.proofs.Same.{same_location}
use Rattle.machine_steps.specs.declared.left.Left as lefts
use Rattle.machine_steps.specs.declared.left.Left.TheVariants as left
use Rattle.machine_steps.specs.declared.why.Why as whys
use Rattle.machine_steps.specs.Contents.{Contents}
use Rattle.machine_steps.specs.Calls.{none_open, open_along, GoBack}
use Rattle.machine_steps.specs.Counts.{no_counts}
use Rattle.machine_steps.specs.Keeps.{AreKept, IsKeptStride, IsAsDeclared, Leaves, GoesTo, counts_after}
use Rattle.machine_steps.specs.Keeps.{AllGoBack, GoesBack, counts_over, open_behind, ways_after}
use Rattle.machine_steps.specs.Run.{Stride, IsRun, FollowStep, used_from}
use Rattle.machine_steps.specs.Since.{Edge, edge_by, edges_of}
use Rattle.machine_steps.specs.Step.{State, Stepped, on, stopped}
use Rattle.machine_steps.proofs.Returning.{along_joined, back_split, edges_more}
use Rattle.machine_emulator.specs.Fed.{op_in, waits_with}
use Rattle.flow_graph.specs.Walk.{Setting}
use Rattle.machine_steps.specs.declared.verdict.Verdict.{Verdict}
use Rattle.machine_steps.specs.declared.verdict.Verdict.TheVariants.{Kept, Left}
use Rattle.program_replay.specs.Replay.{Given, AreFed, IsReplayed, StopsAt, LeavesAt, IsLeft, IsVerdict}
use Rattle.proved_laws.proofs.OneRun.{one_first, one_stride}

goes_to_one : (outcome : Stepped) (a b : ℕ) → GoesTo outcome a → GoesTo outcome b → a ≡ b
goes_to_one (on next) a b one other = sym one ∙ other
goes_to_one (stopped held because moment) a b one other = absurd one

-- there is an end: a list with a last is not empty
some_last : (strides : List Stride) (last : Stride) → strides ++ last ∷ [] ≡ [] → ⊥
some_last [] last none = cc
some_last (stride ∷ strides) last none = cc

module _ (g : Setting) where
  abbrev Ways : Type 0
  Ways = List (Option ℕ)

  abbrev Leave : List ℕ → Ways → Stride → lefts.Left → Type 0
  Leave counts ways stride what = Leaves g.loads g.notes counts ways stride what

  abbrev KeptStride : List ℕ → Stride → Type 0
  KeptStride counts stride = IsKeptStride g.loads g.notes counts stride

  -- a stride has one first cause
  one_cause : (counts : List ℕ) (ways : Ways) (stride : Stride) (what other : lefts.Left) → Leave counts ways stride what
      → Leave counts ways stride other → what ≡ other
  one_cause counts ways stride (left.Unlisted location word) (left.Unlisted place fetch) is is_other =
      let where_it_is : location ≡ place = same_location location place (is.0 ∙ sym is_other.0) in
      let read : word ≡ fetch = is.1 ∙ sym is_other.1 in
      cc
  one_cause counts ways stride (left.Unlisted location word) (left.NotBack exit onto) is is_other =
      absurd (is.2 is_other.0)
  one_cause counts ways stride (left.Unlisted location word) (left.TooOften from onto) is is_other =
      absurd (is.2 is_other.0)
  one_cause counts ways stride (left.Unlisted location word) left.Switch is is_other = absurd is_other
  one_cause counts ways stride (left.Unlisted location word) left.LoadCard is is_other = absurd (is.2 is_other.0)
  one_cause counts ways stride (left.NotBack exit onto) (left.Unlisted place fetch) is is_other =
      absurd (is_other.2 is.0)
  one_cause counts ways stride (left.NotBack exit onto) (left.NotBack begin end) is is_other =
      let begins : exit ≡ begin = same_location exit begin (is.3 ∙ sym is_other.3) in
      let ends : onto ≡ end =
      same_location onto end (goes_to_one stride.outcome onto.number end.number is.4 is_other.4) in
      cc
  one_cause counts ways stride (left.NotBack exit onto) (left.TooOften begin end) is is_other =
      absurd (is.2 is_other.2)
  one_cause counts ways stride (left.NotBack exit onto) left.Switch is is_other = absurd is_other
  one_cause counts ways stride (left.NotBack exit onto) left.LoadCard is is_other = absurd (is_other.1 is.1)
  one_cause counts ways stride (left.TooOften from onto) (left.Unlisted place fetch) is is_other =
      absurd (is_other.2 is.0)
  one_cause counts ways stride (left.TooOften from onto) (left.NotBack exit end) is is_other =
      absurd (is_other.2 is.2)
  one_cause counts ways stride (left.TooOften from onto) (left.TooOften begin end) is is_other =
      let begins : from ≡ begin = same_location from begin (is.4 ∙ sym is_other.4) in
      let ends : onto ≡ end =
      same_location onto end (goes_to_one stride.outcome onto.number end.number is.5 is_other.5) in
      cc
  one_cause counts ways stride (left.TooOften from onto) left.Switch is is_other = absurd is_other
  one_cause counts ways stride (left.TooOften from onto) left.LoadCard is is_other = absurd (is_other.1 is.1)
  one_cause counts ways stride left.Switch other is is_other = absurd is
  one_cause counts ways stride left.LoadCard (left.Unlisted place fetch) is is_other = absurd (is_other.2 is.0)
  one_cause counts ways stride left.LoadCard (left.NotBack exit onto) is is_other = absurd (is.1 is_other.1)
  one_cause counts ways stride left.LoadCard (left.TooOften from onto) is is_other = absurd (is.1 is_other.1)
  one_cause counts ways stride left.LoadCard left.Switch is is_other = absurd is_other
  one_cause counts ways stride left.LoadCard left.LoadCard is is_other = refl

  -- a stride that keeps to the notes doesn't leave them
  kept_leaves_none : (counts : List ℕ) (ways : Ways) (stride : Stride) (what : lefts.Left) → KeptStride counts stride
      → GoesBack g.notes ways stride → Leave counts ways stride what → ⊥
  kept_leaves_none counts ways stride (left.Unlisted location word) kept back leaves = leaves.2 kept.listed
  kept_leaves_none counts ways stride (left.NotBack exit onto) kept back leaves = leaves.2 back
  kept_leaves_none counts ways stride (left.TooOften from onto) kept back leaves = leaves.3 kept.marks
  kept_leaves_none counts ways stride left.Switch kept back leaves = leaves
  kept_leaves_none counts ways stride left.LoadCard kept back leaves = leaves.1 kept.cards

  -- a stride with which a verdict comes: it keeps to the notes and stops, or it leaves them
  abbrev Ends : List ℕ → Ways → Stride → Type 0
  Ends counts ways stride =
      (KeptStride counts stride × GoesBack g.notes ways stride
      × ((held : Contents) × (because : whys.Why) × (moment : ℕ) × (stride.outcome ≡ stopped held because moment)))
      ⊎ ((what : lefts.Left) × Leave counts ways stride what)

  stops_last : (outcome : Stepped) (held : Contents) (because : whys.Why) (moment : ℕ) (Right : State → Type 0)
      (strides : List Stride) (last : Stride)
      → outcome ≡ stopped held because moment → FollowStep outcome Right (strides ++ last ∷ []) → ⊥
  stops_last (on next) held because moment Right strides last stops follow = cc
  stops_last (stopped then why time) held because moment Right strides last stops follow = some_last strides last follow

  -- none comes with a stride that keeps to the notes, where strides follow it
  ends_last : (counts : List ℕ) (ways : Ways) (stride : Stride) (Right : State → Type 0) (strides : List Stride)
      (last : Stride) → Ends counts ways stride → KeptStride counts stride → GoesBack g.notes ways stride
      → FollowStep stride.outcome Right (strides ++ last ∷ []) → ⊥
  ends_last counts ways stride Right strides last (inl (kept, went, (held, because, moment, stops))) keeps back follow =
      stops_last stride.outcome held because moment Right strides last stops follow
  ends_last counts ways stride Right strides last (inr (what, leaves)) keeps back follow =
      kept_leaves_none counts ways stride what keeps back leaves

  -- what is open behind strides, where this is open before them
  abbrev ways_over : Ways → List Stride → Ways
  ways_over ways strides = open_along g.notes.calls ways (edges_of strides)

  abbrev Back : Ways → List Stride → Type 0
  Back ways strides = GoBack g.notes.calls ways (edges_of strides)

  -- the edge of a stride, if it takes one
  abbrev edge_of : Stride → List Edge
  edge_of stride = edge_by stride.origin.sought stride.outcome

  -- Strides from a state with waits, and a last one with which a verdict comes; marks were passed so
  -- often before them, and this was open.
  record Ending (s : State) (waits counts : List ℕ) (ways : Ways) (strides : List Stride) (last : Stride) : Type 0 where
    run : IsRun g.times s (strides ++ last ∷ [])
    fed : AreFed g.times waits (strides ++ last ∷ [])
    kept : AreKept g.loads g.notes counts strides
    back : Back ways strides
    ends : Ends (counts_over g.notes counts strides) (ways_over ways strides) last

  -- what follows the first stride, where that goes on
  ending_rest : (stride : Stride) (outcome : Stepped) (waits counts : List ℕ) (ways : Ways) (strides : List Stride)
      (last : Stride) → FollowStep outcome (λ next. IsRun g.times next (strides ++ last ∷ [])) (strides ++ last ∷ [])
      → AreFed g.times waits (strides ++ last ∷ []) → AreKept g.loads g.notes counts strides
      → Back ways (stride ∷ strides) → Ends (counts_over g.notes counts strides) (ways_over ways (stride ∷ strides)) last
      → (next : State) → outcome ≡ on next → Ending next waits counts (ways_after g.notes ways stride) strides last
  ending_rest stride (on state) waits counts ways strides last follow fed kept back ends next onto =
      let same : state ≡ next = cc in
      record {
        run = subst (λ (s : State). IsRun g.times s (strides ++ last ∷ [])) same follow;
        fed = fed;
        kept = kept;
        back = (back_split g.notes.calls ways (edge_of stride) (edges_of strides) back).1;
        ends = subst (λ (open_ways : Ways). Ends (counts_over g.notes counts strides) open_ways last)
            (along_joined g.notes.calls ways (edge_of stride) (edges_of strides)) ends;
      }
  ending_rest stride (stopped held because moment) waits counts ways strides last follow fed kept back ends next onto =
      absurd (some_last strides last follow)

  goes_or_none : (outcome : Stepped) (Right : State → Type 0) (strides : List Stride) (last : Stride)
      → FollowStep outcome Right (strides ++ last ∷ [])
      → (next : State) × (outcome ≡ on next)
  goes_or_none (on next) Right strides last follow = (next, refl)
  goes_or_none (stopped held because moment) Right strides last follow = absurd (some_last strides last follow)

  -- the first of strides goes back as all do
  first_back : (ways : Ways) (stride : Stride) (strides : List Stride) → Back ways (stride ∷ strides)
      → GoesBack g.notes ways stride
  first_back ways stride strides back = (back_split g.notes.calls ways (edge_of stride) (edges_of strides) back).0

  -- the strides, and the last, are one
  one_ending : (strides others : List Stride) (last end : Stride) (s : State) (waits counts : List ℕ) (ways : Ways)
      → Ending s waits counts ways strides last
      → Ending s waits counts ways others end → (strides ≡ others) × (last ≡ end)
  one_ending [] [] last end s waits counts ways is is_other =
      (refl, one_stride g.times s waits last end is.run.0 is.fed.0 is_other.run.0 is_other.fed.0)
  one_ending [] (other ∷ others) last end s waits counts ways is is_other =
      let same : last ≡ other = one_stride g.times s waits last other is.run.0 is.fed.0 is_other.run.0 is_other.fed.0 in
      absurd (ends_last counts ways other (λ next. IsRun g.times next (others ++ end ∷ [])) others end
      (subst (Ends counts ways) same is.ends) is_other.kept.0 (first_back ways other others is_other.back) is_other.run.1)
  one_ending (stride ∷ strides) [] last end s waits counts ways is is_other =
      let same : end ≡ stride = one_stride g.times s waits end stride is_other.run.0 is_other.fed.0 is.run.0 is.fed.0 in
      absurd (ends_last counts ways stride (λ next. IsRun g.times next (strides ++ last ∷ [])) strides last
      (subst (Ends counts ways) same is_other.ends) is.kept.0 (first_back ways stride strides is.back) is.run.1)
  one_ending (stride ∷ strides) (other ∷ others) last end s waits counts ways is is_other =
      let same : stride ≡ other = one_stride g.times s waits stride other is.run.0 is.fed.0 is_other.run.0 is_other.fed.0 in
      let goes = goes_or_none stride.outcome (λ next. IsRun g.times next (strides ++ last ∷ [])) strides last is.run.1 in
      let rest =
      ending_rest stride stride.outcome (waits_with (op_in stride.origin) stride.origin waits)
      (counts_after g.notes counts stride) ways strides last
      is.run.1 is.fed.1 is.kept.1 is.back is.ends goes.0 goes.1 in
      let onto : other.outcome ≡ on goes.0 = ap (λ (one : Stride). one.outcome) (sym same) ∙ goes.1 in
      let rest_other =
      ending_rest other other.outcome (waits_with (op_in other.origin) other.origin waits)
      (counts_after g.notes counts other) ways others end
      is_other.run.1 is_other.fed.1 is_other.kept.1 is_other.back is_other.ends goes.0 onto in
      let Rest : Stride → Type 0 =
      λ one. Ending goes.0 (waits_with (op_in one.origin) one.origin waits) (counts_after g.notes counts one)
      (ways_after g.notes ways one) others end in
      let alike =
      one_ending strides others last end goes.0 (waits_with (op_in stride.origin) stride.origin waits)
      (counts_after g.notes counts stride) (ways_after g.notes ways stride) rest
      (subst Rest (sym same) rest_other) in
      let all : stride ∷ strides ≡ other ∷ others = let first = same in let others_too = alike.0 in cc in
      (all, alike.1)

  -- the last stride of kept ones is kept
  kept_last : (counts : List ℕ) (strides : List Stride) (last : Stride) → AreKept g.loads g.notes counts (strides ++ last ∷ [])
      → AreKept g.loads g.notes counts strides × KeptStride (counts_over g.notes counts strides) last
  kept_last counts [] last kept = (tt, kept.0)
  kept_last counts (stride ∷ strides) last kept =
      let rest = kept_last (counts_after g.notes counts stride) strides last kept.1 in ((kept.0, rest.0), rest.1)

  -- and goes back, as those before it do
  back_last : (strides : List Stride) (last : Stride) → AllGoBack g.notes (strides ++ last ∷ [])
      → AllGoBack g.notes strides × GoesBack g.notes (open_behind g.notes strides) last
  back_last strides last back =
      back_split g.notes.calls (none_open g.notes.calls) (edges_of strides) (edge_of last)
      (subst (GoBack g.notes.calls (none_open g.notes.calls)) (edges_more strides last) back)

  module _ (given : Given) where
    -- a run of what is given, and the stride with which its verdict comes
    record Ended (strides : List Stride) (last : Stride) : Type 0 where
      replayed : IsReplayed g given (strides ++ last ∷ [])
      kept : AreKept g.loads g.notes (no_counts g.notes.marks) strides
      back : AllGoBack g.notes strides
      ends : Ends (counts_over g.notes (no_counts g.notes.marks) strides) (open_behind g.notes strides) last

    one_end : (strides others : List Stride) (last end : Stride) → Ended strides last → Ended others end → (strides ≡ others)
        × (last ≡ end)
    one_end strides others last end is is_other =
        let p = is.replayed in
        let q = is_other.replayed in
        let same : q.first ≡ p.first = one_first g given q.first p.first q.set_up q.reader p.set_up p.reader in
        one_ending strides others last end p.first given.waits (no_counts g.notes.marks) (none_open g.notes.calls)
        (record { run = p.run; fed = p.fed; kept = is.kept; back = is.back; ends = is.ends })
        (record {
          run = subst (λ (s : State). IsRun g.times s (others ++ end ∷ [])) same q.run;
          fed = q.fed;
          kept = is_other.kept;
          back = is_other.back;
          ends = is_other.ends;
        })

    stops_ended : (step used : ℕ) (because : whys.Why) (at : StopsAt g given step used because) → Ended at.strides at.last
    stops_ended step used because at =
        let kept = kept_last (no_counts g.notes.marks) at.strides at.last at.kept in
        let back = back_last at.strides at.last at.back in
        record {
          replayed = at.replayed;
          kept = kept.0;
          back = back.0;
          ends = inl (kept.1, back.1, (at.held, because, used, at.stops));
        }

    leaves_ended : (step used : ℕ) (what : lefts.Left) (at : LeavesAt g given step used what) → Ended at.strides at.last
    leaves_ended step used what at =
        record {
          replayed = at.under_way.replayed;
          kept = at.under_way.kept;
          back = at.under_way.back;
          ends = inr (what, at.leaves);
        }

    -- it stops once, for one reason, at one time,
    one_stop : (step step' used used' : ℕ) (because because' : whys.Why) → StopsAt g given step used because
        → StopsAt g given step' used' because'
        → (used ≡ used') × (because ≡ because') × (step ≡ step')
    one_stop step step' used used' because because' at other =
        let same =
        one_end at.strides other.strides at.last other.last (stops_ended step used because at)
        (stops_ended step' used' because' other) in
        let outcomes : stopped at.held because used ≡ stopped other.held because' used' =
        sym at.stops ∙ ap (λ (stride : Stride). stride.outcome) same.1 ∙ other.stops in
        let times : used ≡ used' = cc in
        let reasons : because ≡ because' = cc in
        (times, reasons, at.number ∙ ap (λ (strides : List Stride). length strides + 1) same.0 ∙ sym other.number)

    -- or leaves the notes once, in one way, and not both.
    one_leave : (step step' used used' : ℕ) (what what' : lefts.Left) → LeavesAt g given step used what
        → LeavesAt g given step' used' what'
        → (what ≡ what') × (step ≡ step') × (used ≡ used')
    one_leave step step' used used' what what' at other =
        let same =
        one_end at.strides other.strides at.last other.last (leaves_ended step used what at)
        (leaves_ended step' used' what' other) in
        let none : List ℕ = no_counts g.notes.marks in
        let leaves : Leave (counts_over g.notes none at.strides) (open_behind g.notes at.strides) at.last what' =
        subst (λ (strides : List Stride). Leave (counts_over g.notes none strides) (open_behind g.notes strides) at.last
        what') (sym same.0)
        (subst (λ (stride : Stride). Leave (counts_over g.notes none other.strides) (open_behind g.notes other.strides)
        stride what') (sym same.1) other.leaves) in (
          one_cause (counts_over g.notes none at.strides) (open_behind g.notes at.strides) at.last what what' at.leaves
              leaves,
          at.number ∙ ap (λ (strides : List Stride). length strides + 1) same.0 ∙ sym other.number,
          at.time ∙ ap (used_from 0) same.0 ∙ sym other.time,
        )

    stops_or_leaves : (step step' used used' : ℕ) (because : whys.Why) (what : lefts.Left)
        → StopsAt g given step used because
        → LeavesAt g given step' used' what → ⊥
    stops_or_leaves step step' used used' because what at other =
        let same =
        one_end at.strides other.strides at.last other.last (stops_ended step used because at)
        (leaves_ended step' used' what other) in
        let none : List ℕ = no_counts g.notes.marks in
        let leaves : Leave (counts_over g.notes none at.strides) (open_behind g.notes at.strides) at.last what =
        subst (λ (strides : List Stride). Leave (counts_over g.notes none strides) (open_behind g.notes strides) at.last
        what) (sym same.0)
        (subst (λ (stride : Stride). Leave (counts_over g.notes none other.strides) (open_behind g.notes other.strides)
        stride what) (sym same.1) other.leaves) in
        kept_leaves_none (counts_over g.notes none at.strides) (open_behind g.notes at.strides) at.last what
        (kept_last none at.strides at.last at.kept).1 (back_last at.strides at.last at.back).1 leaves

    abbrev Declared : Type 0
    Declared = IsAsDeclared g.notes.programmed given.setup.programmed

    -- the notes are left by the switch, or by a stride
    abbrev ByWhat : ℕ → ℕ → lefts.Left → Type 0
    ByWhat step used what =
        ((what ≡ left.Switch) × ¬ Declared × (step ≡ 0) × (used ≡ 0))
        ⊎ LeavesAt g given step used what

    by_what : (step used : ℕ) (what : lefts.Left) → IsLeft g given step used what → ByWhat step used what
    by_what step used (left.Unlisted location word) is = inr is
    by_what step used (left.NotBack exit onto) is = inr is
    by_what step used (left.TooOften from onto) is = inr is
    by_what step used left.Switch is = inl (refl, is.0, is.1, is.2)
    by_what step used left.LoadCard is = inr is

    stops_or_left : (step step' used used' : ℕ) (because : whys.Why) (what : lefts.Left)
        → StopsAt g given step used because → ByWhat step' used' what → ⊥
    stops_or_left step step' used used' because what at (inl switched) = switched.1 at.declared
    stops_or_left step step' used used' because what at (inr leaves) =
        stops_or_leaves step step' used used' because what at leaves

    one_left : (step step' used used' : ℕ) (what what' : lefts.Left) → ByWhat step used what → ByWhat step' used' what'
        → (what ≡ what') × (step ≡ step') × (used ≡ used')
    one_left step step' used used' what what' (inl is) (inl other) =
        (is.0 ∙ sym other.0, is.2 ∙ sym other.2, is.3 ∙ sym other.3)
    one_left step step' used used' what what' (inl is) (inr at) = absurd (is.1 at.under_way.declared)
    one_left step step' used used' what what' (inr at) (inl is) = absurd (is.1 at.under_way.declared)
    one_left step step' used used' what what' (inr at) (inr other) = one_leave step step' used used' what what' at other

    pub one_verdict : (worst step step' : ℕ) (verdict other : Verdict) → IsVerdict g given worst step verdict
        → IsVerdict g given worst step' other
        → (verdict ≡ other) × (step ≡ step')
    one_verdict worst step step' (Kept used bound because) (Kept used' bound' because') is is_other =
        let same = one_stop step step' used used' because because' is.1 is_other.1 in
        let times : used ≡ used' = same.0 in
        let reasons : because ≡ because' = same.1 in
        let bounds : bound ≡ bound' = is.0 ∙ sym is_other.0 in
        let verdicts : Kept used bound because ≡ Kept used' bound' because' = cc in
        (verdicts, same.2)
    one_verdict worst step step' (Kept used bound because) (Left what number used') is is_other =
        absurd (stops_or_left step step' used used' because what is.1 (by_what step' used' what is_other.1))
    one_verdict worst step step' (Left what number used) (Kept used' bound because) is is_other =
        absurd (stops_or_left step' step used' used because what is_other.1 (by_what step used what is.1))
    one_verdict worst step step' (Left what number used) (Left what' number' used') is is_other =
        let same =
        one_left step step' used used' what what' (by_what step used what is.1)
        (by_what step' used' what' is_other.1) in
        let ways : what ≡ what' = same.0 in
        let numbers : number ≡ number' = is.0 ∙ same.1 ∙ sym is_other.0 in
        let times : used ≡ used' = same.2 in
        let verdicts : Left what number used ≡ Left what' number' used' = cc in
        (verdicts, same.1)

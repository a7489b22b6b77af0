-- Why a kept run is a walk of the same time.
use Rattle.std.specs.Prelude.{◌≡◌, ℕ, zero, suc, ◌+◌, ◌*◌, ◌/◌, ◌<◌, ◌≤◌, if◌then◌else◌, Bool, true, false, IsSome}
use Rattle.std.specs.Prelude.{IsTrue, List, [], ◌∷◌, ◌++◌, map, flat_map, slice_get, unwrap_or, Option, Some, None}
use Rattle.std.specs.Prelude.{Contains}
use Rattle.std.proofs.Common.{refl, ap, sym, ◌∙◌, subst, inl, inr, arith}
use Rattle.std.proofs.lemmas.Bool.{false≢true, lt-ltb}
use Rattle.std.proofs.lemmas.List.Elements.{Contains-append_left, Contains-append_right}
use Rattle.std.proofs.lemmas.Option.{unwrap_or-slice_get}
use Rattle.base_words.specs.declared.instruction.Instruction.{Instruction}
use Rattle.base_words.specs.declared.op.Op.{Op}
use Rattle.base_words.specs.declared.op.Op.TheVariants.{NoOperation, Stop, Add, ResetAdd, Divide, DivideReset, Multiply}
use Rattle.base_words.specs.declared.op.Op.TheVariants.{Store, Shift, Branch, LoadDistributor, Read, Punch}
use Rattle.base_words.specs.declared.op.Op.TheVariants.{BranchOnDigit}
use Rattle.base_words.specs.declared.word.Word.{Word}
use Rattle.base_words.specs.Instruction.{instruction_of}
use Rattle.base_words.specs.Op.{op_of}
use Rattle.base_words.specs.Word.{word, number_in}
use Rattle.base_notes.specs.declared.entry.Entry.{Entry}
use Rattle.base_notes.specs.Allowed.{Notes, is_listed, allowed, loaded, listed, patterns_of}
use Rattle.machine_steps.proofs.Alone.{writes_no_other, leaves_switch}
use Rattle.machine_steps.specs.Contents.{Contents, word_at, upper}
use Rattle.machine_steps.specs.Calls.{none_open, open_after, GoBack, MayGo}
use Rattle.machine_steps.specs.Counts.{after_pass, no_counts, AreWithin}
use Rattle.machine_steps.specs.Effect.{is_too_large, quotient}
use Rattle.machine_steps.specs.Ending.{ended_by, stops_by, clock_by}
use Rattle.machine_steps.proofs.Ends.{Ends, KeepsStart, step_ends}
use Rattle.machine_steps.specs.Keeps.{IsAsDeclared, IsAllowed, counts_after, counts_by, IsKeptStride, AreKept, IsKept}
use Rattle.machine_steps.specs.Run as run
use Rattle.machine_steps.specs.Run.{Stride, IsStride, IsRun, IsFirstState, used_from}
use Rattle.machine_steps.specs.Since.{Edge, edge_by, edges_of}
use Rattle.machine_steps.specs.Step.{State, Stepped, on, stopped, contents_after, step, instruction_in, clock_of}
use Rattle.machine_steps.specs.Step.{MayWait}
use Rattle.machine_steps.specs.Timing.{ready, ended, units_of, digit_sum, IsWait}
use Rattle.machine_steps.specs.Ways.{Way, early, to, late, ways}
use Rattle.machine_steps.specs.declared.why.Why as whys
use Rattle.machine_steps.specs.declared.why.Why.TheVariants as why
use Rattle.machine_steps.specs.Writes.{writes}
use Rattle.base_graphs.proofs.Lists.{contains_here, contains_there, contains_cases}
use Rattle.flow_graph.specs.Accepted.{IsAdmitted, IsFixed, IsThere}
use Rattle.flow_graph.specs.Hops.{edge_between, Hop, hops_of, hops, IsNode}
use Rattle.flow_graph.proofs.Orders.{reached_next}
use Rattle.flow_graph.specs.RunHops.{units_with, hop_of, hops_taken}
use Rattle.flow_graph.specs.Walk.{edge_taken, edges_taken}
use Rattle.flow_graph.specs.Walk.{Setting, IsProper, Taken, MayHaveUnits, end_by, IsTimed, IsHopAt, FollowHop}
use Rattle.flow_graph.specs.Walk.{IsWalkFrom, IsWalk, time_from, time_of}

-- their time is what the run uses
pub same_time : (time : ℕ) (strides : List Stride) → time_from time (hops_taken strides) ≡ used_from time strides
same_time time [] = refl
same_time time (stride ∷ strides) = same_time (run.time_after stride.outcome) strides

-- ten digits sum up to 90 at most
digits_below : (count n : ℕ) → digit_sum count n ≤ 9 * count
digits_below zero n = omega arith
digits_below (suc count) n = omega (arith, digits_below count (n / 10))

quotient_below : (large : Bool) (n : ℕ) → (if large then 0 else digit_sum 10 n) ≤ 90
quotient_below true n = omega arith
quotient_below false n = omega (arith, digits_below 10 n)

-- the units of a step are units that a hop may have
pub units_right : (op : Op) (d : ℕ) (c : Contents) → MayHaveUnits op d (units_of op d c)
units_right NoOperation d c = refl
units_right Stop d c = refl
units_right (Add a) d c = refl
units_right (ResetAdd a) d c = refl
units_right Divide d c =
    quotient_below (is_too_large c.accumulator (number_in (word_at c d)))
    (quotient c.accumulator (number_in (word_at c d)))
units_right DivideReset d c =
    quotient_below (is_too_large c.accumulator (number_in (word_at c d)))
    (quotient c.accumulator (number_in (word_at c d)))
units_right Multiply d c = omega (arith, digits_below 10 (upper c.accumulator))
units_right (Store s) d c = refl
units_right (Shift s) d c = refl
units_right (Branch b) d c = refl
units_right LoadDistributor d c = refl
units_right Read d c = refl
units_right Punch d c = refl
units_right (BranchOnDigit p) d c = refl

-- the clock at which a way ends, in the words of walks
same_end : (way : Way) (entry : Entry) (op : Op) (d place units wait clock : ℕ)
    → end_by way entry op d place units wait clock
    ≡ clock_by way (ready entry place clock) (ended entry op d place units wait clock)
same_end early entry op d place units wait clock = refl
same_end (to next) entry op d place units wait clock = refl
same_end late entry op d place units wait clock = refl

-- members of lists that are made of others
abbrev one_hop : Instruction → Way → Hop
one_hop ins way = record { ins = ins; way = way }

hop_in : (ins : Instruction) (all : List Way) (way : Way) → Contains all way
    → Contains (map (one_hop ins) all) (one_hop ins way)
hop_in ins [] way h = absurd (omega (arith, h.1))
hop_in ins (w ∷ all) way h = elim (contains_cases w way all h) [
  | inl same ↦ subst (λ (v : Way). Contains (map (one_hop ins) (w ∷ all)) (one_hop ins v)) same
      (contains_here (one_hop ins w) (map (one_hop ins) all))
  | inr behind ↦ contains_there (one_hop ins w) (one_hop ins way) (map (one_hop ins) all) (hop_in ins all way behind)
]

hops_in : (notes : Notes) (all : List Instruction) (ins : Instruction) (way : Way) → Contains all ins
    → Contains (ways notes ins) way
    → Contains (flat_map (hops_of notes) all) (one_hop ins way)
hops_in notes [] ins way h w = absurd (omega (arith, h.1))
hops_in notes (one ∷ all) ins way h w = elim (contains_cases one ins all h) [
  | inl same ↦ Contains-append_left (hops_of notes one) (flat_map (hops_of notes) all) (one_hop ins way)
      (subst (λ (i : Instruction). Contains (hops_of notes i) (one_hop ins way)) (sym same)
      (hop_in ins (ways notes ins) way w))
  | inr behind ↦ Contains-append_right (hops_of notes one) (flat_map (hops_of notes) all) (one_hop ins way)
      (hops_in notes all ins way behind w)
]

-- a drum word is what the drum has at its place
drum_word : (c : Contents) (place : ℕ) → place < 2000
    → word_at c place ≡ unwrap_or (slice_get c.drum place) (word false 0)
drum_word c place below = rw (lt-ltb place 2000 below) (sym (unwrap_or-slice_get c.drum place (word false 0)))

-- what a stop leaves to follow
nothing_follows : (because : whys.Why) (Right : ℕ → Type 0) (hops : List Taken) → hops ≡ []
    → FollowHop (stops_by because) Right hops
nothing_follows why.Operation Right hops none = none
nothing_follows why.Operand Right hops none = none
nothing_follows why.Card Right hops none = none
nothing_follows why.Quotient Right hops none = none
nothing_follows why.Overflow Right hops none = none
nothing_follows why.Digit Right hops none = none
nothing_follows why.Programmed Right hops none = none
nothing_follows why.Next Right hops none = none

-- What is so of each state of a kept run, where this is open: it seeks an executed location, its switch is as
-- declared, and it has the deck's word at each executed location without a list.
record Stays (g : Setting) (angle : ℕ) (ways : List (Option ℕ)) (s : State) : Type 0 where
  start : s.first_angle ≡ angle
  reached : IsNode g.loads g.notes g.start (record { place = s.sought; ways = ways })
  as_declared : IsAsDeclared g.notes.programmed s.contents.programmed_stops
  agrees : (place : ℕ) (w : Word) → IsFixed g.loads g.notes g.start place → g.loads place ≡ Some w
      → word_at s.contents place ≡ w

module _ (g : Setting) (executed : List ℕ) (angle : ℕ) (proper : IsProper g)
    (admitted : IsAdmitted g.loads g.notes g.start executed) where
  -- a deck's instruction is allowed where the deck loads it
  deck_allowed : (place : ℕ) (w : Word) → g.loads place ≡ Some w
      → Contains (allowed g.loads g.notes place) (instruction_of w)
  deck_allowed place w loads =
      subst (λ (found : Option Word). Contains (loaded found ++ listed (patterns_of g.notes place)) (instruction_of w))
      (sym loads)
      (contains_here (instruction_of w) (listed (patterns_of g.notes place)))

  -- the fetched instruction is allowed
  fetched_allowed : (ways : List (Option ℕ)) (s : State) → Stays g angle ways s → IsAllowed g.loads g.notes s
      → Contains (allowed g.loads g.notes s.sought) (instruction_in s)
  fetched_allowed ways s stays may_be =
      go (is_listed g.notes s.sought) refl (admitted.there s.sought (ways, stays.reached))
    where
      from_deck : ¬ IsTrue (is_listed g.notes s.sought) → (found : Option Word) → g.loads s.sought ≡ found
          → IsSome found → Contains (allowed g.loads g.notes s.sought) (instruction_in s)
      from_deck free None loads some = absurd (cc)
      from_deck free (Some w) loads some =
          subst (λ (v : Word). Contains (allowed g.loads g.notes s.sought) (instruction_of v))
          (sym (stays.agrees s.sought w ((ways, stays.reached), free) loads))
          (deck_allowed s.sought w loads)

      go : (b : Bool) → is_listed g.notes s.sought ≡ b → IsThere g.loads g.notes s.sought
          → Contains (allowed g.loads g.notes s.sought) (instruction_in s)
      go true is there = may_be is
      go false is (inl some) = from_deck (λ listed_here. false≢true (sym is ∙ listed_here)) (g.loads s.sought) refl some
      go false is (inr listed_here) = absurd (false≢true (sym is ∙ listed_here))

  -- a step that keeps to the notes leaves what stays so
  next_stays : (open_ways : List (Option ℕ)) (s next : State) (wait : ℕ) → Stays g angle open_ways s
      → Contains (allowed g.loads g.notes s.sought) (instruction_in s)
      → step g.times s wait ≡ on next → Contains (ways g.notes (instruction_in s)) (to next.sought)
      → next.first_angle ≡ s.first_angle → MayGo g.notes.calls open_ways (edge_between s.sought next.sought)
      → Stays g angle (open_after g.notes.calls (edge_between s.sought next.sought) open_ways) next
  next_stays open_ways s next wait stays may_be goes_on by same_start may = record {
    start = same_start ∙ stays.start;
    reached = reached_next g.loads g.notes g.start (record { place = s.sought; ways = open_ways })
        (record {
          place = next.sought;
          ways = open_after g.notes.calls (edge_between s.sought next.sought) open_ways;
        }) stays.reached (record {
          edge = (
            instruction_in s,
            hops_in g.notes (allowed g.loads g.notes s.sought) (instruction_in s) (to next.sought) may_be by,
          );
          may = may;
          behind = refl;
        });
    as_declared =
        subst (λ (t : Stepped). IsAsDeclared g.notes.programmed (contents_after t).programmed_stops) goes_on
        (subst (IsAsDeclared g.notes.programmed) (sym (leaves_switch g.times s wait)) stays.as_declared);
    agrees = λ place w fixed loads.
        let below : place < 2000 = proper.on_drum place w loads in
        let free : ¬ Contains (writes (instruction_in s)) place =
        λ written. admitted.unaltered s.sought (instruction_in s) place (open_ways, stays.reached) may_be written fixed in
        drum_word next.contents place below
        ∙ ap (λ (found : Option Word). unwrap_or found (word false 0))
        (subst (λ (t : Stepped). slice_get (contents_after t).drum place ≡ slice_get s.contents.drum place) goes_on
        (writes_no_other g.times s wait place free))
        ∙ sym (drum_word s.contents place below) ∙ stays.agrees place w fixed loads;
  }

  -- a stride from such a state, by an operation of the profile
  module _ (open_ways : List (Option ℕ)) (stride : Stride) (op : Op) (stays : Stays g angle open_ways stride.origin)
      (is : op_of (instruction_in stride.origin).op ≡ Some op)
      (may_be : Contains (allowed g.loads g.notes stride.origin.sought) (instruction_in stride.origin))
      (may_wait : MayWait g.times (op_of (instruction_in stride.origin).op) stride.wait)
      (ends : Ends (ways g.notes (instruction_in stride.origin)) stride.origin.first_angle
      (ready (g.times op) stride.origin.sought (clock_of stride.origin))
      (ended (g.times op) op (instruction_in stride.origin).d stride.origin.sought
      (units_of op (instruction_in stride.origin).d stride.origin.contents) stride.wait (clock_of stride.origin))
      stride.outcome) where
    hop_timed : IsTimed g.times angle (hop_of stride) (op_of (instruction_in stride.origin).op)
    hop_timed =
        let ins : Instruction = instruction_in stride.origin in
        let way : Way = ended_by stride.outcome in
        let waits : IsWait op (g.times op) stride.wait =
        subst (λ (found : Option Op). MayWait g.times found stride.wait) is may_wait in
        let Right : ℕ → ℕ → Type 0 = λ begin units. MayHaveUnits op ins.d units × IsWait op (g.times op) stride.wait
        × (begin + run.time_after stride.outcome
        ≡ end_by way (g.times op) op ins.d stride.origin.sought units stride.wait (begin + stride.origin.time)) in
        let at : Right stride.origin.first_angle (units_of op ins.d stride.origin.contents) = (
          units_right op ins.d stride.origin.contents,
          waits,
          ends.at ∙ sym (same_end way (g.times op) op ins.d stride.origin.sought (units_of op ins.d stride.origin.contents)
              stride.wait (clock_of stride.origin)),
        ) in
        let from : Right angle (units_of op ins.d stride.origin.contents) =
        subst (λ (begin : ℕ). Right begin (units_of op ins.d stride.origin.contents)) stays.start at in
        let units : units_with (op_of ins.op) ins.d stride.origin.contents ≡ units_of op ins.d stride.origin.contents =
        ap (λ (found : Option Op). units_with found ins.d stride.origin.contents) is in
        subst (IsTimed g.times angle (hop_of stride)) (sym is) (subst (Right angle) (sym units) from)

    hop_right : IsHopAt g angle stride.origin.sought stride.origin.time (hop_of stride)
    hop_right = record {
      here = refl;
      allowed =
          hops_in g.notes (allowed g.loads g.notes stride.origin.sought) (instruction_in stride.origin)
          (ended_by stride.outcome) may_be ends.by;
      begins = refl;
      timed = hop_timed;
    }

  -- what follows a stride is right if what follows a step that goes on is
  follows : (open_ways : List (Option ℕ)) (s : State) (wait : ℕ) (counts : List ℕ) (strides : List Stride)
      (outcome : Stepped) → Stays g angle open_ways s
      → Contains (allowed g.loads g.notes s.sought) (instruction_in s) → outcome ≡ step g.times s wait
      → Contains (ways g.notes (instruction_in s)) (ended_by outcome) → KeepsStart s.first_angle outcome
      → run.FollowStep outcome (λ next. IsRun g.times next strides) strides
      → AreWithin g.notes.marks (counts_by g.notes counts s.sought outcome)
      → GoBack g.notes.calls open_ways (edge_by s.sought outcome ++ edges_of strides)
      → ((next : State) (after : List (Option ℕ)) → Stays g angle after next
      → GoBack g.notes.calls after (edges_of strides) → IsRun g.times next strides
      → counts_by g.notes counts s.sought outcome ≡ after_pass g.notes.marks s.sought next.sought counts
      → IsWalkFrom g angle next.sought next.time (after_pass g.notes.marks s.sought next.sought counts)
      (hops_taken strides))
      → FollowHop (ended_by outcome) (λ next.
      AreWithin g.notes.marks (after_pass g.notes.marks s.sought next counts)
      × IsWalkFrom g angle next (run.time_after outcome) (after_pass g.notes.marks s.sought next counts)
      (hops_taken strides)) (hops_taken strides)
  follows open_ways s wait counts strides (on next) stays may_be stepped by from run within back rest = (
    within,
    rest next (open_after g.notes.calls (edge_between s.sought next.sought) open_ways)
        (next_stays open_ways s next wait stays may_be (sym stepped) by from back.0) back.1 run refl,
  )
  follows open_ways s wait counts strides (stopped held because moment) stays may_be stepped by from run within back rest =
      nothing_follows because _ (hops_taken strides) (ap hops_taken run)

  -- a stride and what follows it
  stride_walks : (open_ways : List (Option ℕ)) (stride : Stride) (strides : List Stride) (counts : List ℕ)
      → Stays g angle open_ways stride.origin
      → IsStride g.times stride.origin stride
      → run.FollowStep stride.outcome (λ next. IsRun g.times next strides) strides → IsKeptStride g.loads g.notes counts stride
      → GoBack g.notes.calls open_ways (edges_of (stride ∷ strides))
      → ((next : State) (after : List (Option ℕ)) → Stays g angle after next
      → GoBack g.notes.calls after (edges_of strides) → IsRun g.times next strides
      → counts_after g.notes counts stride ≡ after_pass g.notes.marks stride.origin.sought next.sought counts
      → IsWalkFrom g angle next.sought next.time (after_pass g.notes.marks stride.origin.sought next.sought counts)
      (hops_taken strides))
      → IsWalkFrom g angle stride.origin.sought stride.origin.time counts (hops_taken (stride ∷ strides))
  stride_walks open_ways stride strides counts stays turned is_run kept back rest =
      let may_be : Contains (allowed g.loads g.notes stride.origin.sought) (instruction_in stride.origin) =
      fetched_allowed open_ways stride.origin stays kept.listed in
      go may_be (op_of (instruction_in stride.origin).op) refl
      (admitted.profile stride.origin.sought (open_ways, stays.reached) (instruction_in stride.origin) may_be)
    where
      go : Contains (allowed g.loads g.notes stride.origin.sought) (instruction_in stride.origin) → (found : Option Op)
          → op_of (instruction_in stride.origin).op ≡ found → IsSome found
          → IsWalkFrom g angle stride.origin.sought stride.origin.time counts (hops_taken (stride ∷ strides))
      go may_be None is some = absurd (cc)
      go may_be (Some op) is some =
          let ends =
          subst (Ends (ways g.notes (instruction_in stride.origin)) stride.origin.first_angle
          (ready (g.times op) stride.origin.sought (clock_of stride.origin))
          (ended (g.times op) op (instruction_in stride.origin).d stride.origin.sought
          (units_of op (instruction_in stride.origin).d stride.origin.contents) stride.wait (clock_of stride.origin)))
          (sym turned.stepped) (step_ends g.times stride.origin stride.wait op g.notes is stays.as_declared kept.cards) in (
            hop_right open_ways stride op stays is may_be turned.may_wait ends,
            follows open_ways stride.origin stride.wait counts strides stride.outcome stays may_be turned.stepped ends.by
                ends.from is_run kept.marks back rest,
          )

  walk_from : (strides : List Stride) (open_ways : List (Option ℕ)) (s : State) (counts : List ℕ)
      → Stays g angle open_ways s → IsRun g.times s strides → GoBack g.notes.calls open_ways (edges_of strides)
      → AreKept g.loads g.notes counts strides
      → IsWalkFrom g angle s.sought s.time counts (hops_taken strides)
  walk_from [] open_ways s counts stays is_run back kept = tt
  walk_from (stride ∷ strides) open_ways s counts stays is_run back kept =
      let Walks : State → Type 0 =
      λ state. IsWalkFrom g angle state.sought state.time counts (hops_taken (stride ∷ strides)) in
      let from : Stays g angle open_ways stride.origin =
      subst (Stays g angle open_ways) (sym is_run.0.from_here) stays in
      let turned : IsStride g.times stride.origin stride =
      subst (λ (state : State). IsStride g.times state stride) (sym is_run.0.from_here) is_run.0 in
      subst Walks is_run.0.from_here
      (stride_walks open_ways stride strides counts from turned is_run.1 kept.0 back
      (λ next after next_stays_so back_after runs same.
      walk_from strides after next (after_pass g.notes.marks stride.origin.sought next.sought counts) next_stays_so runs
      back_after
      (subst (λ (after : List ℕ). AreKept g.loads g.notes after strides) same kept.1)))

-- a stop takes no edge
no_edge : (from : ℕ) (because : whys.Why) → edge_taken from (stops_by because) ≡ []
no_edge from why.Operation = refl
no_edge from why.Operand = refl
no_edge from why.Card = refl
no_edge from why.Quotient = refl
no_edge from why.Overflow = refl
no_edge from why.Digit = refl
no_edge from why.Programmed = refl
no_edge from why.Next = refl

-- the hops of strides take the edges that the strides take
same_edge : (from : ℕ) (outcome : Stepped) → edge_taken from (ended_by outcome) ≡ edge_by from outcome
same_edge from (on next) = refl
same_edge from (stopped held because moment) = no_edge from because

same_edges : (strides : List Stride) → edges_taken (hops_taken strides) ≡ edges_of strides
same_edges [] = refl
same_edges (stride ∷ strides) =
    ap (λ (edges : List Edge). edges ++ edges_taken (hops_taken strides))
    (same_edge stride.origin.sought stride.outcome)
    ∙ ap (λ (edges : List Edge). edge_by stride.origin.sought stride.outcome ++ edges) (same_edges strides)

-- A kept run of an admitted deck is a walk, from the same angle and of the same time.
pub kept_walk : (g : Setting) (executed : List ℕ) (s : State) (strides : List Stride) → IsProper g
    → IsAdmitted g.loads g.notes g.start executed
    → IsFirstState g.loads (IsFixed g.loads g.notes g.start) g.start s → IsRun g.times s strides
    → IsKept g.loads g.notes s strides
    → IsWalk g s.first_angle (hops_taken strides) × (time_of (hops_taken strides) ≡ used_from 0 strides)
kept_walk g executed s strides proper admitted first is_run kept =
    let nothing : List (Option ℕ) = none_open g.notes.calls in
    let stays : Stays g s.first_angle nothing s = record {
      start = refl;
      reached = subst (λ (place : ℕ). IsNode g.loads g.notes g.start (record { place = place; ways = nothing }))
          (sym first.seeks) ([], refl);
      as_declared = kept.declared;
      agrees = first.agrees;
    } in
    let walks : IsWalkFrom g s.first_angle s.sought s.time (no_counts g.notes.marks) (hops_taken strides) =
    walk_from g executed s.first_angle proper admitted strides nothing s (no_counts g.notes.marks) stays is_run kept.back
    kept.kept in
    let seeking : IsWalkFrom g s.first_angle g.start s.time (no_counts g.notes.marks) (hops_taken strides) =
    subst (λ (place : ℕ). IsWalkFrom g s.first_angle place s.time (no_counts g.notes.marks) (hops_taken strides)) first.seeks
    walks in
    let at_once : IsWalkFrom g s.first_angle g.start 0 (no_counts g.notes.marks) (hops_taken strides) =
    subst (λ (time : ℕ). IsWalkFrom g s.first_angle g.start time (no_counts g.notes.marks) (hops_taken strides)) first.at_once
    seeking in (
      record {
        on_drum = first.angle;
        from_start = at_once;
        back = subst (GoBack g.notes.calls (none_open g.notes.calls)) (sym (same_edges strides)) kept.back;
      },
      same_time 0 strides,
    )

-- Laws of the latest end of a hop: those of a clockwork, as the chain of a step has them, that it is the end of some
-- hop and that of none is later, and what the search for the first instruction takes.
use Rattle.std.proofs.Common.{◌≡◌, ℕ, ◌+◌, ◌-◌, ◌*◌, ◌%◌, ◌<◌, ◌≤◌, Bool, true, false, if◌then◌else◌, Option, Some}
use Rattle.std.proofs.Common.{None, refl, ap, sym, ◌∙◌, subst, arith}
use Rattle.std.specs.Prelude.{◌==◌}
use Rattle.std.proofs.Math.Nat.{mul-le-mul_left}
use Rattle.base_words.specs.declared.instruction.Instruction.{Instruction}
use Rattle.base_words.specs.declared.op.Op.{Op}
use Rattle.base_words.specs.declared.op.Op.TheVariants.{Divide, DivideReset, Multiply, Shift, Read, Punch}
use Rattle.base_words.specs.declared.op.shift.Shift as shifts
use Rattle.base_words.specs.declared.op.shift.Shift.TheVariants as shift
use Rattle.machine_rotation.specs.Available.{is_angle, is_available}
use Rattle.machine_rotation.specs.Moment.{first}
use Rattle.base_words.specs.Op.{op_of}
use Rattle.machine_rotation.proofs.Clockworks.{KeepsTime, keeps_time, seek_clockworks, optional_clockworks}
use Rattle.machine_rotation.proofs.Waited.{at_angle, angles_apart, longest_behind, drum_at_angle}
use Rattle.base_notes.specs.declared.entry.Entry.{Entry}
use Rattle.machine_steps.specs.Effect.{places}
use Rattle.machine_steps.specs.Timing.{found, IsWait, longest_step}
use Rattle.machine_steps.specs.Ways.{Way, early, to, late}
use Rattle.machine_steps.proofs.Chained.{found_keeps_time, ready_keeps_time, ready_from_found, ended_keeps_time}
use Rattle.machine_steps.proofs.Chained.{ended_from_found, ended_grows}
use Rattle.flow_graph.specs.Walk.{Taken, MayHaveUnits, end_by, IsTimed}
use Rattle.flow_graph.specs.Longest.{most_units, most_wait, longest_by, longest}

-- a shift has ten places at most
places_ten : (s : shifts.Shift) (d : ℕ) → places s d ≤ 10
places_ten shift.Right d = omega arith
places_ten shift.Left d = omega arith
places_ten shift.Round d = go (d % 10 == 0)
  where
    go : (b : Bool) → (if b then 10 else d % 10) ≤ 10
    go true = omega arith
    go false = omega arith

-- what an operation takes at most for its units and for its wait, of which it has one alone
most_work : (op : Op) (d : ℕ) (entry : Entry) → entry.per * most_units op d + most_wait op entry ≤ 90000000
most_work Divide d entry = omega (arith, entry.short_per)
most_work DivideReset d entry = omega (arith, entry.short_per)
most_work Multiply d entry = omega (arith, entry.short_per)
most_work (Shift s) d entry = omega (arith, entry.short_per, mul-le-mul_left entry.per (places_ten s d))
most_work Read d entry = omega (arith, entry.short_wait)
most_work Punch d entry = omega (arith, entry.short_wait)
most_work _ d entry = omega arith

module _ (entry : Entry) (op : Op) (d place units wait : ℕ) where
  -- the ends of a hop whose work is short keep to the laws of a clockwork
  end_keeps_time : (way : Way) → entry.per * units + wait ≤ 90000000
      → KeepsTime (end_by way entry op d place units wait) longest_step
  end_keeps_time early work = ready_keeps_time entry place
  end_keeps_time (to next) work = ended_keeps_time entry place op d units wait work
  end_keeps_time late work = ended_keeps_time entry place op d units wait work

  -- with more units and a longer wait a hop ends no earlier
  end_grows : (way : Way) (more longer t : ℕ) → units ≤ more → wait ≤ longer
      → end_by way entry op d place units wait t ≤ end_by way entry op d place more longer t
  end_grows early more longer t u w = omega arith
  end_grows (to next) more longer t u w = ended_grows entry place op d units wait more longer t u w
  end_grows late more longer t u w = ended_grows entry place op d units wait more longer t u w

  -- a search that begins when the instruction is found ends as the search that found it
  end_from_found : (way : Way) (t : ℕ)
      → end_by way entry op d place units wait (found place t) ≡ end_by way entry op d place units wait t
  end_from_found early t = ready_from_found entry place t
  end_from_found (to next) t = ended_from_found entry place op d units wait t
  end_from_found late t = ended_from_found entry place op d units wait t

-- A hop ends no earlier than it begins, whatever its units and its wait.
pub end_later : (entry : Entry) (op : Op) (d place units wait : ℕ) (way : Way) (t : ℕ)
    → t ≤ end_by way entry op d place units wait t
end_later entry op d place units wait way t =
    let idle = end_keeps_time entry op d place 0 0 way (omega arith) in
    omega (arith, idle.never_earlier t, end_grows entry op d place 0 0 way units wait t (omega arith) (omega arith))

-- no hop has more units than the most
pub units_at_most : (op : Op) (d units : ℕ) → MayHaveUnits op d units → units ≤ most_units op d
units_at_most Divide d units h = h
units_at_most DivideReset d units h = h
units_at_most Multiply d units h = h
units_at_most (Shift s) d units h = omega (arith, h)
units_at_most _ d units h = omega (arith, h)

-- no hop has a longer wait than the longest
pub wait_at_most : (op : Op) (entry : Entry) (wait : ℕ) → IsWait op entry wait → wait ≤ most_wait op entry
wait_at_most Read entry wait h = h.1
wait_at_most Punch entry wait h = h.1
wait_at_most _ entry wait h = omega (arith, h)

-- A hop that begins later ends no earlier.
pub later_end : (entry : Entry) (op : Op) (d place units wait : ℕ) (way : Way) (earlier later : ℕ)
    → MayHaveUnits op d units → IsWait op entry wait → earlier ≤ later
    → end_by way entry op d place units wait earlier ≤ end_by way entry op d place units wait later
later_end entry op d place units wait way earlier later may waits =
    let short : entry.per * units + wait ≤ 90000000 =
    omega (
      arith,
      most_work op d entry,
      mul-le-mul_left entry.per (units_at_most op d units may),
      wait_at_most op entry wait waits,
    ) in
    (end_keeps_time entry op d place units wait way short).monotone earlier later

-- a hop may have the most units
may_have_most : (op : Op) (d : ℕ) → MayHaveUnits op d (most_units op d)
may_have_most Divide d = omega arith
may_have_most DivideReset d = omega arith
may_have_most Multiply d = omega arith
may_have_most (Shift s) d = refl
may_have_most _ d = refl

-- a hop may have the longest wait
may_wait_longest : (op : Op) (entry : Entry) → IsWait op entry (most_wait op entry)
may_wait_longest Read entry = (entry.waits, omega arith)
may_wait_longest Punch entry = (entry.waits, omega arith)
may_wait_longest _ entry = refl

-- The latest ends of a hop keep to the laws of a clockwork; of no operation, to those of nothing.
longest_keeps_time : (times : Op → Entry) (place : ℕ) (ins : Instruction) (way : Way)
    → KeepsTime (longest times place ins way) longest_step
unfolding longest
longest_keeps_time times place ins way = go (op_of ins.op)
  where
    go : (found_op : Option Op) → KeepsTime (λ t. longest_by times place ins way t found_op) longest_step
    go None = keeps_time (optional_clockworks seek_clockworks) None (λ t. t) longest_step (λ t. refl) (omega arith)
    go (Some op) = end_keeps_time (times op) op ins.d place (most_units op ins.d) (most_wait op (times op)) way
        (most_work op ins.d (times op))

-- A search that begins later ends no earlier.
pub longest_monotone : (times : Op → Entry) (place : ℕ) (ins : Instruction) (way : Way) (s t : ℕ) → s ≤ t
    → longest times place ins way s ≤ longest times place ins way t
longest_monotone times place ins way = (longest_keeps_time times place ins way).monotone

-- A search that begins a revolution later ends a revolution later.
pub longest_periodic : (times : Op → Entry) (place : ℕ) (ins : Instruction) (way : Way) (t : ℕ)
    → longest times place ins way (t + 50) ≡ longest times place ins way t + 50
longest_periodic times place ins way = (longest_keeps_time times place ins way).periodic

-- A hop ends no earlier than it begins.
pub longest_later : (times : Op → Entry) (place : ℕ) (ins : Instruction) (way : Way) (t : ℕ)
    → t ≤ longest times place ins way t
longest_later times place ins way = (longest_keeps_time times place ins way).never_earlier

-- A hop takes this many word times at most.
pub longest_near : (times : Op → Entry) (place : ℕ) (ins : Instruction) (way : Way) (t : ℕ)
    → longest times place ins way t ≤ t + longest_step
longest_near times place ins way = (longest_keeps_time times place ins way).within_span

-- what it is of an operation of the profile
pub longest_of : (times : Op → Entry) (place : ℕ) (ins : Instruction) (way : Way) (t : ℕ) (op : Op)
    → op_of ins.op ≡ Some op
    → longest times place ins way t
    ≡ end_by way (times op) op ins.d place (most_units op ins.d) (most_wait op (times op)) t
unfolding longest
longest_of times place ins way t op is = ap (λ (found_op : Option Op). longest_by times place ins way t found_op) is

-- Some hop ends then: the one with the most units and the longest wait.
pub longest_is_timed : (times : Op → Entry) (place : ℕ) (ins : Instruction) (way : Way) (angle begun : ℕ) (op : Op)
    → op_of ins.op ≡ Some op
    → IsTimed times angle (record {
      place = place;
      ins = ins;
      way = way;
      units = most_units op ins.d;
      wait = most_wait op (times op);
      begun = begun;
      ended = longest times place ins way (angle + begun) - angle;
    }) (op_of ins.op)
longest_is_timed times place ins way angle begun op is =
    let hop : Taken = record {
      place = place;
      ins = ins;
      way = way;
      units = most_units op ins.d;
      wait = most_wait op (times op);
      begun = begun;
      ended = longest times place ins way (angle + begun) - angle;
    } in
    let ends : angle + (longest times place ins way (angle + begun) - angle)
    ≡ end_by way (times op) op ins.d place (most_units op ins.d) (most_wait op (times op)) (angle + begun) =
    omega (
      arith,
      longest_later times place ins way (angle + begun),
      longest_of times place ins way (angle + begun) op
          is,
    ) in
    let timed : IsTimed times angle hop (Some op) = (may_have_most op ins.d, may_wait_longest op (times op), ends) in
    subst (λ (found_op : Option Op). IsTimed times angle hop found_op) (sym is) timed

-- No hop ends later.
pub no_later : (times : Op → Entry) (angle : ℕ) (hop : Taken) → IsTimed times angle hop (op_of hop.ins.op)
    → angle + hop.ended ≤ longest times hop.place hop.ins hop.way (angle + hop.begun)
unfolding longest
no_later times angle hop timed = go (op_of hop.ins.op) timed
  where
    go : (found_op : Option Op) → IsTimed times angle hop found_op
        → angle + hop.ended ≤ longest_by times hop.place hop.ins hop.way (angle + hop.begun) found_op
    go None h = absurd h
    go (Some op) h =
        omega (
          arith,
          h.2,
          end_grows (times op) op hop.ins.d hop.place hop.units hop.wait hop.way
              (most_units op hop.ins.d) (most_wait op (times op)) (angle + hop.begun)
              (units_at_most op hop.ins.d hop.units h.0) (wait_at_most op (times op) hop.wait h.1),
        )

-- A search that begins when the instruction is found ends as the search that found it.
pub longest_from_found : (times : Op → Entry) (place : ℕ) (ins : Instruction) (way : Way) (t : ℕ) (op : Op)
    → op_of ins.op ≡ Some op
    → longest times place ins way (first (is_available place) t) ≡ longest times place ins way t
longest_from_found times place ins way t op is =
    longest_of times place ins way (found place t) op is
    ∙ end_from_found (times op) op ins.d place (most_units op ins.d) (most_wait op (times op)) way t
    ∙ sym (longest_of times place ins way t op is)

-- a drum word is found as its angle is
found_at_angle : (start t : ℕ) → start < 2000 → found start t ≡ first (is_angle (start % 50)) t
found_at_angle start t below = ap (λ (had : ℕ → Bool). first had t) (drum_at_angle start below)

-- From the angle behind the start's the first instruction is found a revolution less one later.
pub first_fetch_behind : (start : ℕ) → start < 2000
    → first (is_available start) ((start + 1) % 50) ≡ (start + 1) % 50 + 49
first_fetch_behind start below =
    found_at_angle start ((start + 1) % 50) below
    ∙ longest_behind (start % 50) (omega arith) ((start + 1) % 50) (omega arith)

-- From each angle it is found no later than from that one, and whole revolutions earlier.
pub first_fetch : (start angle : ℕ) → start < 2000 → angle < 50
    → (k : ℕ) × (first (is_available start) angle + 50 * k ≡ (start + 1) % 50 + 49)
    × (first (is_available start) angle ≤ angle + 49)
first_fetch start angle below on_drum =
    let on : start % 50 < 50 = omega arith in
    let here : found start angle ≡ first (is_angle (start % 50)) angle = found_at_angle start angle below in
    let behind : first (is_angle (start % 50)) ((start + 1) % 50) ≡ (start + 1) % 50 + 49 =
    longest_behind (start % 50) on ((start + 1) % 50) (omega arith) in
    let near : found start angle ≤ angle + 49 = (found_keeps_time start).within_span angle in
    let apart = angles_apart (start % 50) on angle ((start + 1) % 50)
    (omega (arith, here, near, behind, at_angle (start % 50) on angle, on_drum)) in
    (apart.0, omega (arith, here, behind, apart.1), near)

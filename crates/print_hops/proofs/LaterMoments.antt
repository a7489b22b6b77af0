-- The moments of a hop are those of one that begins at its angle at time 0, so much later.
use Rattle.std.proofs.Common.{◌≡◌, ℕ, zero, suc, ◌+◌, ◌-◌, ◌*◌, ◌/◌, ◌%◌, ◌≤◌, Bool, true, false, ◌||◌}
use Rattle.std.proofs.Common.{refl, ap, ◌∙◌, arith, Option, Some, None}
use Rattle.std.specs.Prelude.{if◌then◌else◌, not, option_map}
use Rattle.base_words.specs.declared.instruction.Instruction.{Instruction}
use Rattle.base_words.specs.declared.op.Op.{Op}
use Rattle.base_words.specs.Op.{is_operand, op_of, operand_of}
use Rattle.base_notes.specs.declared.entry.Entry.{Entry}
use Rattle.machine_rotation.specs.Recurs.{periodic}
use Rattle.machine_rotation.specs.Waits.{available_recurs}
use Rattle.machine_steps.specs.Timing.{found, reached, ready, waits_for_operand}
use Rattle.machine_steps.specs.Ways.{Way, early, to, late}
use Rattle.flow_walks.specs.Visited.{Visited}
use Rattle.print_hops.specs.declared.moments.Moments.{Moments}
use Rattle.print_hops.specs.Moments.{is_early, later, moments_of, moments_with}
use Rattle.print_hops.specs.Waits.{between, data_angle, data_at, for_data, for_instruction}
use Rattle.print_hops.specs.Waits.{moments_at, next_angle, next_at, on_drum}
use Rattle.print_hops.proofs.Waiting.{found_after, reached_after}

-- ---- so many revolutions later

found_rounds : (place clock laps : ℕ) → found place (clock + 50 * laps) ≡ found place clock + 50 * laps
found_rounds place clock zero =
    let same : clock + 50 * 0 ≡ clock = omega arith in
    ap (found place) same ∙ omega arith
found_rounds place clock (suc laps) =
    let more : clock + 50 * suc laps ≡ (clock + 50 * laps) + 50 = omega arith in
    ap (found place) more ∙ periodic (available_recurs place) (clock + 50 * laps)
    ∙ omega (arith, found_rounds place clock laps)

reached_rounds : (op : Op) (d clock laps : ℕ) → reached op d (clock + 50 * laps) ≡ reached op d clock + 50 * laps
reached_rounds op d clock laps = go (waits_for_operand op)
  where
    go : (waits : Bool) → (if waits then found d (clock + 50 * laps) else clock + 50 * laps)
        ≡ (if waits then found d clock else clock) + 50 * laps
    go true = found_rounds d clock laps
    go false = refl

-- ---- moments

optional : (none : Bool) (moment first by : ℕ) → moment ≡ first + by
    → (if none then None else Some moment)
    ≡ option_map (λ (one : ℕ). one + by) (if none then None else Some first)
optional true moment first by same = refl
optional false moment first by same = ap (λ (n : ℕ). Some n) same

module _ (times : Op → Entry) (angle place : ℕ) (ins : Instruction) (way : Way) (begun at : ℕ)
    (is : at ≡ (angle + begun) % 50) where
  whole : angle + begun ≡ at + 0 + 50 * ((angle + begun) / 50)
  whole = omega (arith, is)

  finds : found place (angle + begun) ≡ found place (at + 0) + 50 * ((angle + begun) / 50)
  finds = ap (found place) whole ∙ found_rounds place (at + 0) ((angle + begun) / 50)

  found_then : found place (angle + begun) - angle ≡ found place (at + 0) - at + begun
  found_then = omega (arith, finds, whole, found_after place (at + 0))

  module _ (op : Op) where
    sought : ready (times op) place (angle + begun)
        ≡ ready (times op) place (at + 0) + 50 * ((angle + begun) / 50)
    sought = omega (arith, finds)

    ready_then : ready (times op) place (angle + begun) - angle ≡ ready (times op) place (at + 0) - at + begun
    ready_then = omega (arith, finds, whole, found_after place (at + 0))

    reached_then : reached op ins.d (ready (times op) place (angle + begun)) - angle
        ≡ reached op ins.d (ready (times op) place (at + 0)) - at + begun
    reached_then =
        let x : ℕ = ready (times op) place (at + 0) in
        let moved : reached op ins.d (ready (times op) place (angle + begun))
        ≡ reached op ins.d x + 50 * ((angle + begun) / 50) =
        ap (reached op ins.d) sought ∙ reached_rounds op ins.d x ((angle + begun) / 50) in
        omega (arith, moved, whole, found_after place (at + 0), reached_after op ins.d x)

  later_with : (op : Option Op)
      → moments_with times angle place ins.d way begun op
      ≡ later begun (moments_with times at place ins.d way 0 op)
  later_with None = λ i. record { found = found_then i; ready = None; operand = None }
  later_with (Some op) =
      let none = is_early way || not (is_operand (operand_of op) ins.d) in
      λ i. record {
        found = found_then i;
        ready = Some (ready_then op i);
        operand =
            optional none (reached op ins.d (ready (times op) place (angle + begun)) - angle)
            (reached op ins.d (ready (times op) place (at + 0)) - at) begun (reached_then op) i;
      }

pub later_moments : (times : Op → Entry) (angle place : ℕ) (ins : Instruction) (way : Way)
    (begun at : ℕ) → at ≡ (angle + begun) % 50
    → moments_of times angle place ins way begun ≡ later begun (moments_of times at place ins way 0)
later_moments times angle place ins way begun at is =
    later_with times angle place ins way begun at is (op_of ins.op)

-- ---- what a hop waits, and the angles of what it waits for

-- the hop, begun at time 0
abbrev pub at_once : Visited → Visited
at_once hop = record {
  place = hop.place;
  ins = hop.ins;
  way = hop.way;
  begun = 0;
  ended = hop.ended - hop.begun;
}

between_later : (first last : Option ℕ) (by : ℕ)
    → between (option_map (λ (n : ℕ). n + by) first) (option_map (λ (n : ℕ). n + by) last) ≡ between first last
between_later None last by = refl
between_later (Some first) None by = refl
between_later (Some first) (Some last) by = omega arith

angle_later : (angle at by : ℕ) → at ≡ (angle + by) % 50 → (op : Option Op) (first last : Option ℕ)
    → data_angle angle op (option_map (λ (n : ℕ). n + by) first) (option_map (λ (n : ℕ). n + by) last)
    ≡ data_angle at op first last
angle_later angle at by is None first last = refl
angle_later angle at by is (Some op) None last = refl
angle_later angle at by is (Some op) (Some first) None = refl
angle_later angle at by is (Some op) (Some first) (Some last) =
    let same : (angle + (first + by)) % 50 ≡ (at + first) % 50 = omega (arith, is) in
    ap (λ (n : ℕ). if waits_for_operand op then Some n else None) same

module _ (times : Op → Entry) (angle at : ℕ) (hop : Visited) (is : at ≡ (angle + hop.begun) % 50)
  where
    same_later : moments_at times angle hop ≡ later hop.begun (moments_at times at (at_once hop))
    same_later = later_moments times angle hop.place hop.ins hop.way hop.begun at is

    pub instruction_once : for_instruction times angle hop ≡ for_instruction times at (at_once hop)
    instruction_once =
        ap (λ (moments : Moments). moments.found - hop.begun) same_later ∙ omega arith

    pub data_once : for_data times angle hop ≡ for_data times at (at_once hop)
    data_once =
        let moments = moments_at times at (at_once hop) in
        ap (λ (moments : Moments). between moments.ready moments.operand) same_later
        ∙ between_later moments.ready moments.operand hop.begun

    pub data_at_once : data_at times angle hop ≡ data_at times at (at_once hop)
    data_at_once =
        let moments = moments_at times at (at_once hop) in
        ap (λ (moments : Moments). on_drum hop.ins.d (on_drum hop.place
        (data_angle angle (op_of hop.ins.op) moments.ready moments.operand))) same_later
        ∙ ap (λ (o : Option ℕ). on_drum hop.ins.d (on_drum hop.place o))
        (angle_later angle at hop.begun is (op_of hop.ins.op) moments.ready moments.operand)

pub next_at_once : (angle at : ℕ) (hop : Visited) → at ≡ (angle + hop.begun) % 50 → hop.begun ≤ hop.ended
    → next_at angle hop ≡ next_at at (at_once hop)
next_at_once angle at hop is after = ap (on_drum hop.place) (go hop.way)
  where
    go : (way : Way) → next_angle angle way hop.ended ≡ next_angle at way (hop.ended - hop.begun)
    go early = refl
    go late = refl
    go (to next) =
        let same : (angle + hop.ended) % 50 ≡ (at + (hop.ended - hop.begun)) % 50 = omega (arith, is) in
        ap (λ (n : ℕ). on_drum next (Some n)) same

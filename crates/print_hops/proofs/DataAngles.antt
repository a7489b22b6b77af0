-- The angle at which D would come just when it is wanted is the same for all hops of a kind.
use Rattle.std.proofs.Common.{◌≡◌, ℕ, ◌+◌, ◌-◌, ◌%◌, ◌<◌, Bool, true, false, ◌||◌, refl, ap, ◌∙◌, arith, Option, Some, None}
use Rattle.std.proofs.lemmas.Bool.{ltb-true}
use Rattle.std.specs.Prelude.{if◌then◌else◌, nat_lt, not}
use Rattle.base_words.specs.declared.op.Op.{Op}
use Rattle.base_words.specs.Op.{is_operand, op_of, operand_of}
use Rattle.base_notes.specs.declared.entry.Entry.{Entry}
use Rattle.machine_rotation.specs.Moment.{first}
use Rattle.machine_rotation.proofs.Waited.{at_angle, drum_at_angle}
use Rattle.machine_steps.specs.Timing.{found, reached, ready, waits_for_operand}
use Rattle.machine_steps.specs.Ways.{Way}
use Rattle.flow_walks.specs.Visited.{Visited}
use Rattle.print_hops.specs.Moments.{is_early, moments_with}
use Rattle.print_hops.specs.Waits.{data_angle, data_at, is_alike, on_drum}
use Rattle.print_hops.proofs.SameKinds.{in_common}
use Rattle.print_hops.proofs.Waiting.{found_after}

-- a word of the drum is found at its angle
found_at : (place clock : ℕ) → place < 2000 → found place clock % 50 ≡ place % 50
found_at place clock below =
    ap (λ (has : ℕ → Bool). first has clock % 50) (drum_at_angle place below)
    ∙ at_angle (place % 50) (omega arith) clock

-- so its operation can begin at one angle
ready_at : (entry : Entry) (place angle s t : ℕ) → place < 2000
    → (angle + (ready entry place (angle + s) - angle)) % 50
    ≡ (angle + (ready entry place (angle + t) - angle)) % 50
ready_at entry place angle s t below =
    omega (
      arith,
      found_at place (angle + s) below,
      found_at place (angle + t) below,
      found_after place (angle + s),
      found_after place (angle + t),
    )

-- the angle of a hop, by what it has in common with the others of its kind, and when it begins
abbrev angle_by : (Op → Entry) → ℕ → ℕ → ℕ → Way → ℕ → Option Op → Option ℕ
angle_by times angle place d way begun op =
    on_drum place (data_angle angle op (moments_with times angle place d way begun op).ready
    (moments_with times angle place d way begun op).operand)

one_angle : (times : Op → Entry) (angle place d : ℕ) (way : Way) (s t : ℕ) (op : Option Op)
    → angle_by times angle place d way s op ≡ angle_by times angle place d way t op
one_angle times angle place d way s t None = refl
one_angle times angle place d way s t (Some op) =
    go (is_early way || not (is_operand (operand_of op) d)) (nat_lt place 2000) refl
  where
    go : (none inside : Bool) → nat_lt place 2000 ≡ inside
        → (if inside then data_angle angle (Some op) (Some (ready (times op) place (angle + s) - angle))
        (if none then None else Some (reached op d (ready (times op) place (angle + s)) - angle)) else None)
        ≡ (if inside then data_angle angle (Some op) (Some (ready (times op) place (angle + t) - angle))
        (if none then None else Some (reached op d (ready (times op) place (angle + t)) - angle)) else None)
    go none false at = refl
    go true true at = refl
    go false true at =
        ap (λ (n : ℕ). if waits_for_operand op then Some n else None)
        (ready_at (times op) place angle s t (ltb-true place 2000 at))

pub same_data_at : (times : Op → Entry) (angle : ℕ) (a b : Visited) → is_alike a b ≡ true
    → data_at times angle a ≡ data_at times angle b
same_data_at times angle a b so =
    let common = in_common a b so in
    ap (on_drum a.ins.d) (one_angle times angle a.place a.ins.d a.way a.begun b.begun (op_of a.ins.op))
    ∙ (λ j. on_drum (common.d j)
    (angle_by times angle (common.place j) (common.d j) (common.way j) b.begun (op_of (common.op j))))

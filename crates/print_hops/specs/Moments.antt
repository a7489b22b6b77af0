-- When an instruction is found, is ready and has its data, in word times used. The moments are
-- those of the machine's steps.
use Rattle.std.specs.Prelude.{ℕ, ◌+◌, ◌-◌, Bool, true, false, ◌||◌, not, if◌then◌else◌, Option}
use Rattle.std.specs.Prelude.{Some, None, option_map}
use Rattle.base_words.specs.declared.instruction.Instruction.{Instruction}
use Rattle.base_words.specs.declared.op.Op.{Op}
use Rattle.base_words.specs.Op.{op_of, operand_of, is_operand}
use Rattle.base_notes.specs.declared.entry.Entry.{Entry}
use Rattle.machine_steps.specs.Timing.{found, ready, reached}
use Rattle.machine_steps.specs.Ways.{Way, early, to, late}
use Rattle.print_hops.specs.declared.moments.Moments.{Moments}

-- the step stops before its operation acts
abbrev pub is_early : Way → Bool
is_early early = true
is_early (to next) = false
is_early late = false

-- The moments of an operation: one that stops early, or whose D isn't what it wants, has no data.
abbrev pub moments_with : (Op → Entry) → ℕ → ℕ → ℕ → Way → ℕ → Option Op → Moments
moments_with times angle place d way begun None =
    record { found = found place (angle + begun) - angle; ready = None; operand = None }
moments_with times angle place d way begun (Some op) =
    let x = ready (times op) place (angle + begun) in
    record {
      found = found place (angle + begun) - angle;
      ready = Some (x - angle);
      operand =
          if is_early way || not (is_operand (operand_of op) d) then None
          else Some (reached op d x - angle);
    }

-- Those of an instruction at a place, sought with `begun` word times used, on a drum with this
-- angle at time 0, whose step ends in this way.
abbrev pub moments_of : (Op → Entry) → ℕ → ℕ → Instruction → Way → ℕ → Moments
moments_of times angle place ins way begun =
    moments_with times angle place ins.d way begun (op_of ins.op)

-- these moments, so many word times later
abbrev pub later : ℕ → Moments → Moments
later by moments = record {
  found = moments.found + by;
  ready = option_map (λ moment. moment + by) moments.ready;
  operand = option_map (λ moment. moment + by) moments.operand;
}

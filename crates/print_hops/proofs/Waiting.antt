-- What a hop waits: how long at most, and that no wait ends before it begins.
use Rattle.std.proofs.Common.{◌≡◌, ℕ, ◌+◌, ◌-◌, ◌≤◌, Bool, true, false, arith, Option, Some, None, ◌||◌}
use Rattle.std.specs.Prelude.{not, if◌then◌else◌}
use Rattle.base_words.specs.declared.op.Op.{Op}
use Rattle.base_words.specs.Op.{op_of, operand_of, is_operand}
use Rattle.base_notes.specs.declared.entry.Entry.{Entry}
use Rattle.machine_rotation.specs.Recurs.{never_earlier, within_span}
use Rattle.machine_rotation.specs.Waits.{available_recurs}
use Rattle.machine_steps.specs.Timing.{found, ready, reached, waits_for_operand}
use Rattle.flow_walks.specs.Visited.{Visited}
use Rattle.print_hops.specs.Moments.{is_early, moments_with}
use Rattle.print_hops.specs.Waits.{between, for_data, for_instruction, moments_at}

-- a word is found at once, or 49 word times later at the latest
pub found_after : (place clock : ℕ) → clock ≤ found place clock
found_after place clock = never_earlier (available_recurs place) clock

found_soon : (place clock : ℕ) → found place clock ≤ clock + 49
found_soon place clock =
    omega (arith, within_span (available_recurs place) clock, (available_recurs place).short)

-- and so is an operand
pub reached_after : (op : Op) (d x : ℕ) → x ≤ reached op d x
reached_after op d x = go (waits_for_operand op)
  where
    go : (waits : Bool) → x ≤ (if waits then found d x else x)
    go true = found_after d x
    go false = omega arith

reached_soon : (op : Op) (d x : ℕ) → reached op d x ≤ x + 49
reached_soon op d x = go (waits_for_operand op)
  where
    go : (waits : Bool) → (if waits then found d x else x) ≤ x + 49
    go true = found_soon d x
    go false = omega arith

-- an instruction is found after it is sought, and soon
pub instruction_after : (times : Op → Entry) (angle : ℕ) (hop : Visited)
    → hop.begun ≤ (moments_at times angle hop).found
instruction_after times angle hop = go (op_of hop.ins.op)
  where
    go : (op : Option Op)
        → hop.begun ≤ (moments_with times angle hop.place hop.ins.d hop.way hop.begun op).found
    go None = omega (arith, found_after hop.place (angle + hop.begun))
    go (Some op) = omega (arith, found_after hop.place (angle + hop.begun))

pub instruction_soon : (times : Op → Entry) (angle : ℕ) (hop : Visited)
    → for_instruction times angle hop ≤ 49
instruction_soon times angle hop = go (op_of hop.ins.op)
  where
    go : (op : Option Op)
        → (moments_with times angle hop.place hop.ins.d hop.way hop.begun op).found - hop.begun ≤ 49
    go None = omega (arith, found_soon hop.place (angle + hop.begun))
    go (Some op) = omega (arith, found_soon hop.place (angle + hop.begun))

-- an operand is had after its operation can begin, and soon
later_or_none : (early : Bool) (x d angle : ℕ) → x ≤ d → d ≤ x + 49
    → (first second : ℕ) → Some (x - angle) ≡ Some first
    → (if early then None else Some (d - angle)) ≡ Some second → first ≤ second
later_or_none true x d angle after soon first second p q = absurd (cc)
later_or_none false x d angle after soon first second p q =
    let begins : x - angle ≡ first = cc in
    let ends : d - angle ≡ second = cc in
    omega (arith, begins, ends)

pub data_after : (times : Op → Entry) (angle : ℕ) (hop : Visited) (first second : ℕ)
    → (moments_at times angle hop).ready ≡ Some first
    → (moments_at times angle hop).operand ≡ Some second → first ≤ second
data_after times angle hop first second = go (op_of hop.ins.op)
  where
    go : (op : Option Op)
        → (moments_with times angle hop.place hop.ins.d hop.way hop.begun op).ready ≡ Some first
        → (moments_with times angle hop.place hop.ins.d hop.way hop.begun op).operand ≡ Some second
        → first ≤ second
    go None p q = absurd (cc)
    go (Some op) p q =
        let x : ℕ = ready (times op) hop.place (angle + hop.begun) in
        later_or_none (is_early hop.way || not (is_operand (operand_of op) hop.ins.d)) x
        (reached op hop.ins.d x) angle (reached_after op hop.ins.d x) (reached_soon op hop.ins.d x)
        first second p q

soon_or_none : (early : Bool) (x d angle : ℕ) → d ≤ x + 49
    → between (Some (x - angle)) (if early then None else Some (d - angle)) ≤ 49
soon_or_none true x d angle soon = omega arith
soon_or_none false x d angle soon = omega (arith, soon)

pub data_soon : (times : Op → Entry) (angle : ℕ) (hop : Visited) → for_data times angle hop ≤ 49
data_soon times angle hop = go (op_of hop.ins.op)
  where
    go : (op : Option Op)
        → between (moments_with times angle hop.place hop.ins.d hop.way hop.begun op).ready
        (moments_with times angle hop.place hop.ins.d hop.way hop.begun op).operand ≤ 49
    go None = omega arith
    go (Some op) =
        let x : ℕ = ready (times op) hop.place (angle + hop.begun) in
        soon_or_none (is_early hop.way || not (is_operand (operand_of op) hop.ins.d)) x
        (reached op hop.ins.d x) angle (reached_soon op hop.ins.d x)

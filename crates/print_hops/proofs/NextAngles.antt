-- The angle at which the next instruction would come just when it is sought is the same for all hops of a kind that
-- take as long as they can.
use Rattle.std.proofs.Common.{◌≡◌, ℕ, ◌+◌, ◌-◌, ◌%◌, ◌<◌, Bool, true, false, refl, ap, sym, ◌∙◌, arith, Some, None}
use Rattle.std.proofs.lemmas.Bool.{ltb-true}
use Rattle.std.specs.Prelude.{if◌then◌else◌, nat_lt}
use Rattle.base_words.specs.declared.instruction.Instruction.{Instruction}
use Rattle.base_words.specs.declared.op.Op.{Op}
use Rattle.base_words.specs.Op.{op_of}
use Rattle.base_notes.specs.declared.entry.Entry.{Entry}
use Rattle.machine_rotation.specs.Available.{is_available}
use Rattle.machine_rotation.specs.Moment.{first}
use Rattle.machine_steps.specs.Ways.{Way, early, to, late}
use Rattle.flow_graph.specs.Longest.{longest, most_units, most_wait}
use Rattle.flow_graph.specs.Walk.{Setting, end_by}
use Rattle.flow_graph.proofs.FromAngles.{found_angle, leap_time}
use Rattle.flow_graph.proofs.LongestLaws.{longest_from_found, longest_of}
use Rattle.flow_walks.specs.Visited.{IsLongest, Visited}
use Rattle.print_hops.specs.Waits.{is_alike, next_angle, next_at, on_drum}
use Rattle.print_hops.proofs.SameKinds.{in_common}

-- an instruction takes as long as another one with its operation and its D
same_longest : (times : Op → Entry) (place t : ℕ) (way : Way) (a b : Instruction) (op : Op) → op_of a.op ≡ Some op
    → a.op ≡ b.op → a.d ≡ b.d → longest times place a way t ≡ longest times place b way t
same_longest times place t way a b op is ops ds =
    longest_of times place a way t op is
    ∙ ap (λ (d : ℕ). end_by way (times op) op d place (most_units op d) (most_wait op (times op)) t) ds
    ∙ sym (longest_of times place b way t op (ap op_of (sym ops) ∙ is))

-- where a hop of a drum word ends at the latest
abbrev angle_after : (Op → Entry) → ℕ → Instruction → Way → ℕ
angle_after times place ins way = (place % 50 + (longest times place ins way (place % 50) - place % 50)) % 50

ends_at : (g : Setting) (angle : ℕ) (hop : Visited) (op : Op) → IsLongest g angle hop → op_of hop.ins.op ≡ Some op
    → hop.place < 2000 → (angle + hop.ended) % 50 ≡ angle_after g.times hop.place hop.ins hop.way
ends_at g angle hop op is has below =
    let found : ℕ = first (is_available hop.place) (angle + hop.begun) in
    let at : found % 50 ≡ hop.place % 50 = found_angle hop.place (angle + hop.begun) below in
    let leap = leap_time g.times hop.place hop.ins hop.way (hop.place % 50) found (omega arith) at in
    let same = longest_from_found g.times hop.place hop.ins hop.way (angle + hop.begun) op has in
    omega (arith, is, same, leap, at)

next_same : (angle : ℕ) (way : Way) (e f : ℕ) → (angle + e) % 50 ≡ (angle + f) % 50
    → next_angle angle way e ≡ next_angle angle way f
next_same angle early e f same = refl
next_same angle (to next) e f same = ap (λ (n : ℕ). on_drum next (Some n)) same
next_same angle late e f same = refl

pub same_next_at : (g : Setting) (angle : ℕ) (a b : Visited) (op : Op) → IsLongest g angle a → IsLongest g angle b
    → is_alike a b ≡ true → op_of a.ins.op ≡ Some op → next_at angle a ≡ next_at angle b
same_next_at g angle a b op p q so has = go (nat_lt a.place 2000) refl
  where
    go : (inside : Bool) → nat_lt a.place 2000 ≡ inside
        → on_drum a.place (next_angle angle a.way a.ended) ≡ on_drum b.place (next_angle angle b.way b.ended)
    go true at =
        let common = in_common a b so in
        let below : a.place < 2000 = ltb-true a.place 2000 at in
        let other : b.place < 2000 = omega (arith, below, common.place) in
        let ends : (angle + a.ended) % 50 ≡ (angle + b.ended) % 50 =
        ends_at g angle a op p has below
        ∙ ap (λ (n : ℕ). angle_after g.times n a.ins a.way) common.place
        ∙ ap (λ (w : Way). angle_after g.times b.place a.ins w) common.way
        ∙ ap (λ (n : ℕ). (b.place % 50 + (n - b.place % 50)) % 50)
        (same_longest g.times b.place (b.place % 50) b.way a.ins b.ins op has common.op common.d)
        ∙ sym (ends_at g angle b op q (ap op_of (sym common.op) ∙ has) other) in
        ap (on_drum a.place) (next_same angle a.way a.ended b.ended ends)
        ∙ ap (λ (w : Way). on_drum a.place (next_angle angle w b.ended)) common.way
        ∙ ap (λ (n : ℕ). on_drum n (next_angle angle b.way b.ended)) common.place
    go false at =
        let common = in_common a b so in
        let none : nat_lt b.place 2000 ≡ false = ap (λ (n : ℕ). nat_lt n 2000) (sym common.place) ∙ at in
        ap (λ (c : Bool). if c then next_angle angle a.way a.ended else None) at
        ∙ sym (ap (λ (c : Bool). if c then next_angle angle b.way b.ended else None) none)

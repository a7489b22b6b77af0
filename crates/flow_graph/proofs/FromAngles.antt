-- How long a hop takes from an angle.
use Rattle.std.proofs.Common.{◌≡◌, ℕ, zero, suc, ◌+◌, ◌-◌, ◌*◌, ◌/◌, ◌%◌, ◌<◌, true, refl, ap, sym, ◌∙◌, arith}
use Rattle.std.specs.Prelude.{◌==◌}
use Rattle.std.proofs.lemmas.Bool.{lt-ltb, eqb-true}
use Rattle.machine_rotation.specs.Available.{is_available}
use Rattle.machine_rotation.specs.Moment.{first}
use Rattle.machine_rotation.specs.Recurs.{first_is_first}
use Rattle.machine_rotation.specs.Waits.{available_recurs}
use Rattle.base_words.specs.declared.instruction.Instruction.{Instruction}
use Rattle.base_words.specs.declared.op.Op.{Op}
use Rattle.base_notes.specs.declared.entry.Entry.{Entry}
use Rattle.machine_steps.specs.Ways.{Way}
use Rattle.flow_graph.specs.Longest.{longest}
use Rattle.flow_graph.proofs.LongestLaws.{longest_later, longest_periodic}

module _ (times : Op → Entry) (place : ℕ) (ins : Instruction) (way : Way) where
  -- a search that begins some revolutions later ends as many later
  revolutions : (k t : ℕ) → longest times place ins way (t + 50 * k) ≡ longest times place ins way t + 50 * k
  revolutions zero t =
      let same : t + 50 * 0 ≡ t = omega arith in
      let none : longest times place ins way t ≡ longest times place ins way t + 50 * 0 = omega arith in
      ap (longest times place ins way) same ∙ none
  revolutions (suc k) t =
      let next : t + 50 * suc k ≡ t + 50 * k + 50 = omega arith in
      let sum : longest times place ins way t + 50 * k + 50 ≡ longest times place ins way t + 50 * suc k =
      omega arith in
      ap (longest times place ins way) next ∙ longest_periodic times place ins way (t + 50 * k)
      ∙ ap (λ (n : ℕ). n + 50) (revolutions k t) ∙ sum

  -- From each clock of an angle it takes as long.
  pub leap_time : (angle clock : ℕ) → angle < 50 → clock % 50 ≡ angle
      → longest times place ins way clock ≡ clock + (longest times place ins way angle - angle)
  leap_time angle clock on_drum at =
      let whole : clock ≡ angle + 50 * (clock / 50) = omega (arith, at) in
      let moved : longest times place ins way clock ≡ longest times place ins way angle + 50 * (clock / 50) =
      ap (longest times place ins way) whole ∙ revolutions (clock / 50) angle in
      omega (arith, moved, whole, longest_later times place ins way angle)

-- A drum word is found at its angle.
pub found_angle : (place t : ℕ) → place < 2000 → first (is_available place) t % 50 ≡ place % 50
found_angle place t below =
    let has : is_available place (first (is_available place) t % 50) ≡ true =
    (first_is_first (available_recurs place) t).has in
    let drum : is_available place (first (is_available place) t % 50)
    ≡ (first (is_available place) t % 50 == place % 50) = rw (lt-ltb place 2000 below) refl in
    eqb-true (first (is_available place) t % 50) (place % 50) (sym drum ∙ has)

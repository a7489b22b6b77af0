-- The angles at which locations are found, and their numbers.
use Rattle.std.proofs.Common.{◌≡◌, ℕ, zero, suc, ◌+◌, ◌-◌, ◌*◌, ◌/◌, ◌%◌, ◌<◌, ◌≤◌, List, [], ◌∷◌, map, ap, sym, ◌∙◌, subst, inl, inr, arith}
use Rattle.std.specs.Prelude.{Contains}
use Rattle.std.proofs.lemmas.Bool.{cases_lt, le-ltb, lt-ltb}
use Rattle.base_words.specs.declared.location.Location.{Location}
use Rattle.base_words.specs.Location.{IsLocation}
use Rattle.machine_steps.specs.Timing.{found}
use Rattle.machine_steps.proofs.Chained.{found_keeps_time}
use Rattle.base_graphs.proofs.Lists.{contains_cases, contains_none}
use Rattle.flow_graph.specs.declared.flow_graph.Flow.{Flow}
use Rattle.flow_graph.specs.Flow.{executed_in}
use Rattle.flow_graph.proofs.FromAngles.{found_angle}
use Rattle.ceiling_rows.specs.Slot.{slot_of}

-- the search ends some revolutions later where it begins as many later
pub found_later : (place k t : ℕ) → found place (t + 50 * k) ≡ found place t + 50 * k
found_later place zero t =
    let same : t + 50 * 0 ≡ t = omega arith in
    let none : found place t ≡ found place t + 50 * 0 = omega arith in
    ap (found place) same ∙ none
found_later place (suc k) t =
    let next : t + 50 * suc k ≡ t + 50 * k + 50 = omega arith in
    let sum : found place t + 50 * k + 50 ≡ found place t + 50 * suc k = omega arith in
    ap (found place) next ∙ (found_keeps_time place).periodic (t + 50 * k)
    ∙ ap (λ (n : ℕ). n + 50) (found_later place k t) ∙ sum

-- an instruction that is found at a clock is found at its angle
pub found_again : (place clock : ℕ) → found place clock ≡ clock → found place (clock % 50) ≡ clock % 50
found_again place clock at =
    let whole : clock ≡ clock % 50 + 50 * (clock / 50) = omega arith in
    let later = found_later place (clock / 50) (clock % 50) in
    omega (arith, at, later, ap (found place) whole, whole)

-- The angle of a number is the angle, where it is one at which the place is found.
pub slot_angle : (place angle : ℕ) → IsLocation place → angle < 50 → (place < 2000 → angle ≡ place % 50)
    → slot_of place angle % 50 ≡ angle
slot_angle place angle is on_drum drum = elim (cases_lt place 2000) [
  | inl below ↦ rw (lt-ltb place 2000 below) (sym (drum below))
  | inr past ↦ (
      let beside : 8000 ≤ place = is.1 past in
      let back : (2000 + (place - 8000) * 50 + angle) % 50 ≡ angle = omega (arith, beside, on_drum) in
      rw (le-ltb place 2000 past) back)
]

-- the number of a location at an angle is one of the 2200
pub slot_below : (place angle : ℕ) → IsLocation place → angle < 50 → slot_of place angle < 2200
slot_below place angle is on_drum = elim (cases_lt place 2000) [
  | inl below ↦ rw (lt-ltb place 2000 below) (omega (arith, below))
  | inr past ↦ rw (le-ltb place 2000 past) (omega (arith, is.0, is.1 past, on_drum))
]

-- the angle at which a location on the drum is found is its own
pub own_angle : (place angle : ℕ) → angle < 50 → found place angle ≡ angle → place < 2000 → angle ≡ place % 50
own_angle place angle on_drum at below = omega (arith, found_angle place angle below, at, on_drum)

-- what stands in the order of discovery is a location
of_locations : (locations : List Location) (place : ℕ) → Contains (map (λ one. one.number) locations) place → IsLocation place
of_locations [] place there = absurd (contains_none place there)
of_locations (one ∷ locations) place there =
    elim (contains_cases one.number place (map (λ one. one.number) locations) there) [
      | inl same ↦ subst IsLocation same one.exists
      | inr behind ↦ of_locations locations place behind
    ]

pub executed_location : (flow : Flow) (place : ℕ) → Contains (executed_in flow) place → IsLocation place
executed_location flow place there = of_locations flow.executed.locations.keys.items place there

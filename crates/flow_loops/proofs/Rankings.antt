-- The ranks of nodes in an order.
use Rattle.std.proofs.Common.{◌≡◌, ◌≢◌, ℕ, ◌+◌, ◌<◌, List, length, set, Option, Some, ap, sym, ◌∙◌, inl, inr, arith}
use Rattle.std.specs.Prelude.{slice_get, slice_index}
use Rattle.std.proofs.lemmas.Bool.{cases_eq}
use Rattle.std.proofs.lemmas.Option.{get_or_from_slice_get}
use Rattle.base_graphs.specs.Graph.{AreDifferent}
use Rattle.base_graphs.proofs.Lists.{get_other, get_written, one_place}
use Rattle.flow_loops.specs.Arranged.{IsBefore}
use Rattle.flow_loops.specs.Ranks.{AreRanks}
use Rattle.flow_loops.proofs.Befores.{before_places}

-- the rank of one more node is written
pub ranks_more : (order ranks : List ℕ) (k node : ℕ) → AreDifferent order → slice_get order k ≡ Some node
    → node < length ranks
    → ((rank other : ℕ) → rank < k → slice_get order rank ≡ Some other → slice_get ranks other ≡ Some rank)
    → (rank other : ℕ) → rank < k + 1 → slice_get order rank ≡ Some other
    → slice_get (set ranks node k) other ≡ Some rank
ranks_more order ranks k node different here inside before rank other lt at = elim (cases_eq rank k) [
  | inl same ↦ (
      let equal : ◌≡◌ {A = Option ℕ} (Some other) (Some node) = sym at ∙ ap (slice_get order) same ∙ here in
      let one : other ≡ node = cc in
      ap (slice_get (set ranks node k)) one ∙ get_written ranks node k inside ∙ ap Some (sym same))
  | inr ne ↦ (
      let apart : other ≢ node =
      λ same. ne (one_place order rank k node different (at ∙ ap Some same) here) in
      get_other ranks node other k apart ∙ before rank other (omega (arith, lt, ne)) at)
]

-- what stands before has the lower rank
pub before_ranked : (order ranks : List ℕ) (node next : ℕ) → AreRanks order ranks → IsBefore order node next
    → slice_index ranks node < slice_index ranks next
before_ranked order ranks node next ranked before =
    let places = before_places order node next before in
    let first : slice_index ranks node ≡ places.0 =
    get_or_from_slice_get ranks node places.0 0 (ranked places.0 node places.3) in
    let second : slice_index ranks next ≡ places.1 =
    get_or_from_slice_get ranks next places.1 0 (ranked places.1 next places.4) in
    omega (arith, first, second, places.2)

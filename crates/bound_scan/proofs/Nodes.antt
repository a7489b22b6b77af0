-- The locations of keys, and their places.
use Rattle.std.proofs.Common.{◌≡◌, ℕ, suc, ◌+◌, ◌*◌, ◌/◌, ◌%◌, ◌<◌, ◌≤◌, List, [], ◌∷◌, ◌++◌, length, get_or, set, ap}
use Rattle.std.proofs.Common.{sym, ◌∙◌, subst, inl, inr, Some, arith}
use Rattle.std.specs.Prelude.{slice_get, vec_len}
use Rattle.std.proofs.lemmas.Bool.{cases_eq}
use Rattle.std.proofs.lemmas.Option.{slice_get_within, get_or_from_slice_get}
use Rattle.std.proofs.Math.Nat.{mul-le-mul_left}
use Rattle.std.proofs.lemmas.List.{length-map, map-append}
use Rattle.std.proofs.lemmas.Nat.{mod-mul-add, div-mul-add}
use Rattle.base_words.specs.declared.location.Location.{Location}
use Rattle.base_notes.specs.declared.notes.mark.Mark.{Mark}
use Rattle.machine_steps.specs.Counts.{AreWithin}
use Rattle.base_graphs.specs.Graph.{AreDifferent}
use Rattle.base_graphs.proofs.Lists.{get_other, get_written, one_place}
use Rattle.flow_graph.specs.Accepted.{counts_of}
use Rattle.flow_graph.specs.Passes.{leading, leading-<}
use Rattle.flow_acceptance.specs.OrderedFlow.{in_order}
use Rattle.bound_scan.specs.declared.keys.Keys.{Keys}
use Rattle.bound_scan.specs.declared.keys.Node.{Node}
use Rattle.bound_scan.specs.Digits.{digits}
use Rattle.bound_scan.specs.Keys.{keys_of, IsKey}
use Rattle.bound_scan.specs.KeysOf.{AreKeys, HaveIndices, numbers, nodes_in}
use Rattle.bound_scan.proofs.DigitsLaws.{digits_leading}

-- each of the first locations' place stands at its number
abbrev pub HaveIndicesBelow : ℕ → List Location → List ℕ → Type 0
HaveIndicesBelow below order places =
    (k place : ℕ) → k < below → slice_get (numbers order) k ≡ Some place → slice_get places place ≡ Some k

-- one more location's place is written
pub place_written : (order : List Location) (places : List ℕ) (k number : ℕ) → AreDifferent (numbers order)
    → number < length places
    → slice_get (numbers order) k ≡ Some number → HaveIndicesBelow k order places
    → HaveIndicesBelow (k + 1) order (set places number k)
place_written order places k number different inside here before other place below at = elim (cases_eq place number) [
  | inl same ↦ (
      let one : other ≡ k = one_place (numbers order) other k number different (at ∙ ap Some same) here in
      subst (λ (n : ℕ). slice_get (set places number k) n ≡ Some other) (sym same)
      (get_written places number k inside ∙ ap Some (sym one)))
  | inr ne ↦ (
      let apart : other ≡ k → ⊥ = λ e. ne (same_place (sym at ∙ ap (slice_get (numbers order)) e ∙ here)) in
      get_other places number place k ne ∙ before other place (omega (arith, below, apart)) at)
]
  where
    same_place : Some place ≡ Some number → place ≡ number
    same_place e = cc

pub all_places : (order : List Location) (places : List ℕ) (below : ℕ) → length order ≤ below
    → HaveIndicesBelow below order places → HaveIndices (numbers order) places
all_places order places below le have k place at =
    have k place (omega (
      arith,
      le,
      slice_get_within (numbers order) k place at,
      length-map order
          (λ (one : Location). one.number),
    )) at

-- the locations of nodes with one more
pub nodes_more : (nodes : List Node) (node : Node)
    → nodes_in (nodes ++ node ∷ []) ≡ nodes_in nodes ++ node.location.number ∷ []
nodes_more nodes node = map-append (λ (one : Node). one.location.number) nodes (node ∷ [])

-- the key of counts, by their number, and of a place
pub key_of_place : (marks : List Mark) (order counts : List ℕ) (k next : ℕ) → AreWithin marks counts
    → slice_get order k ≡ Some next
    → IsKey marks order (leading marks counts * length order + k) next counts
key_of_place marks order counts k next within at =
    let inside : k < length order = slice_get_within order k next at in
    let small : leading marks counts < counts_of marks = leading-< marks counts within in
    let up : length order * suc (leading marks counts) ≤ length order * counts_of marks =
    mul-le-mul_left (length order) small in
    let rest : (leading marks counts * length order + k) % length order ≡ k =
    mod-mul-add (leading marks counts) (length order) k inside in
    let whole : (leading marks counts * length order + k) / length order ≡ leading marks counts =
    div-mul-add (leading marks counts) (length order) k inside in
    record {
      below = omega (arith, inside, up);
      at = ap (λ (n : ℕ). get_or order n 0) rest ∙ get_or_from_slice_get order k next 0 at;
      passed = ap (digits marks) whole ∙ digits_leading marks counts within;
    }

-- a key has as many locations as its order
pub same_length : (keys : Keys) → AreKeys keys → length keys.nodes.items ≡ length (in_order keys.accepted.now)
same_length keys are =
    sym (length-map keys.nodes.items (λ (node : Node). node.location.number))
    ∙ ap (λ (ns : List ℕ). length ns) are.nodes

-- which is what the code counts
pub as_long : (keys : Keys) (words : ℕ) → AreKeys keys → words ≡ vec_len keys.nodes
    → words ≡ length (in_order keys.accepted.now)
as_long keys words are is = is ∙ keys.nodes.ok.0 ∙ same_length keys are

-- the key of the first location with counts is small
pub small_product : (marks : List Mark) (order counts : List ℕ) → AreWithin marks counts → keys_of marks order ≤ 4000000
    → leading marks counts * length order ≤ 4000000
small_product marks order counts within few =
    let up : length order * suc (leading marks counts) ≤ length order * counts_of marks =
    mul-le-mul_left (length order) (leading-< marks counts within) in
    omega (arith, up, few)

-- counts that are within what the marks allow have a small number
pub small_number : (marks : List Mark) (order counts : List ℕ) (k place : ℕ) → AreWithin marks counts
    → keys_of marks order ≤ 4000000 → slice_get order k ≡ Some place
    → leading marks counts * length order + k < 4000000
small_number marks order counts k place within few at =
    let up : length order * suc (leading marks counts) ≤ length order * counts_of marks =
    mul-le-mul_left (length order) (leading-< marks counts within) in
    omega (arith, up, few, slice_get_within order k place at)

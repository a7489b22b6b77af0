-- Which words instructions alter.
use Rattle.std.proofs.Common.{◌≡◌, ℕ, ◌+◌, ◌-◌, ◌<◌, ◌≤◌, List, [], ◌∷◌, ◌++◌, length, take, drop, get_or, Option, Some}
use Rattle.std.proofs.Common.{ap, sym, ◌∙◌, subst, inl, inr, ◌⊎◌, arith}
use Rattle.std.specs.Prelude.{Contains, slice_get}
use Rattle.std.specs.List.{range_with_len}
use Rattle.std.proofs.lemmas.Bool.{cases_lt}
use Rattle.std.proofs.lemmas.List.{length-map, take-append-drop, take_more, take_all, drop_more}
use Rattle.std.proofs.lemmas.List.Elements.{Contains-push_cases}
use Rattle.std.proofs.lemmas.Option.{slice_get_within, get_or_from_slice_get}
use Rattle.std.proofs.lemmas.List.FromFn.{length-range_with_len, get_or-range_with_len}
use Rattle.base_words.specs.declared.instruction.Instruction.{Instruction}
use Rattle.base_words.specs.declared.location.Location.{Location}
use Rattle.base_words.specs.declared.word.Word.{Word}
use Rattle.base_notes.specs.Allowed.{Notes, allowed}
use Rattle.machine_steps.specs.Writes.{writes}
use Rattle.flow_graph.specs.Accepted.{IsFixed, Alters, IsLowestAltered, IsAltered}
use Rattle.flow_graph.specs.Flow.{AreExecuted}
use Rattle.flow_graph.proofs.Founds.{numbers}
use Rattle.flow_acceptance.specs.Altering.{IsFirstAltered, AltersNone}

range_has : (a n x : ℕ) → a ≤ x → x < a + n → Contains (range_with_len a n) x
range_has a n x low high = (
  x - a,
  omega (arith, length-range_with_len a n, low, high),
  omega
      (arith, low, high, get_or-range_with_len a n (x - a) x (omega (arith, low, high))),
)

range_within : (a n x : ℕ) → Contains (range_with_len a n) x → (a ≤ x) × (x < a + n)
range_within a n x there =
    let inside : there.0 < n = omega (arith, there.1, length-range_with_len a n) in
    let here : a + there.0 ≡ x = sym (get_or-range_with_len a n there.0 x inside) ∙ there.2 in
    (omega (arith, here), omega (arith, here, inside))

module _ (loads : ℕ → Option Word) (notes : Notes) (start : ℕ) (ins : Instruction) (low high : ℕ)
    (all : range_with_len low (high - low) ≡ writes ins) where
  written_within : (word : ℕ) → Contains (writes ins) word → (low ≤ word) × (word < high)
  written_within word there =
      let inside =
      range_within low (high - low) word (subst (λ (words : List ℕ). Contains words word) (sym all) there) in
      (inside.0, omega (arith, inside.0, inside.1))

  -- the first of the words that is fixed is the lowest that is altered
  pub lowest_first : (word : ℕ) → low ≤ word → word < high → IsFixed loads notes start word
      → ((k : ℕ) → low ≤ k → k < word → ¬ IsFixed loads notes start k)
      → IsLowestAltered loads notes start ins word
  lowest_first word from to fixed before = record {
    written =
        subst (λ (words : List ℕ). Contains words word) all
        (range_has low (high - low) word from (omega (arith, from, to)));
    fixed = fixed;
    lowest = λ other there is_fixed. elim (cases_lt other word) [
      | inl below ↦ absurd (before other (written_within other there).0 below is_fixed)
      | inr above ↦ above
    ];
  }

  -- nothing is altered where none of the words is fixed
  pub none_altered : ((k : ℕ) → low ≤ k → k < high → ¬ IsFixed loads notes start k) → ¬ Alters loads notes start ins
  none_altered free alters =
      let inside = written_within alters.0 alters.1 in
      free alters.0 inside.0 inside.1 alters.2

-- a list split at a place of it
pub split_at : (xs : List ℕ) (k x : ℕ) → slice_get xs k ≡ Some x → xs ≡ take k xs ++ x ∷ drop (k + 1) xs
split_at xs k x here =
    let inside : k < length xs = slice_get_within xs k x here in
    sym (take-append-drop k xs)
    ∙ ap (λ (ys : List ℕ). take k xs ++ ys)
    (drop_more xs k x inside ∙ ap (λ (y : ℕ). y ∷ drop (k + 1) xs) (get_or_from_slice_get xs k x x here))

-- a member of one more is one of those before, or it
pub taken_cases : (xs : List ℕ) (k x y : ℕ) → slice_get xs k ≡ Some x → Contains (take (k + 1) xs) y
    → Contains (take k xs) y ⊎ (x ≡ y)
taken_cases xs k x y here there =
    let inside : k < length xs = slice_get_within xs k x here in
    let more : take (k + 1) xs ≡ take k xs ++ x ∷ [] =
    take_more xs k x inside ∙ ap (λ (z : ℕ). take k xs ++ z ∷ []) (get_or_from_slice_get xs k x x here) in
    Contains-push_cases (take k xs) x y (subst (λ (ys : List ℕ). Contains ys y) more there)

-- the first location that alters, where those before it alter nothing
pub altered_first : (loads : ℕ → Option Word) (notes : Notes) (start : ℕ) (places : List ℕ) (k writer word : ℕ)
    → AreExecuted loads notes start places
    → slice_get places k ≡ Some writer
    → ((place : ℕ) → Contains (take k places) place → AltersNone loads notes start place)
    → IsFirstAltered loads notes start (allowed loads notes writer) word
    → IsAltered loads notes start writer word
altered_first loads notes start places k writer word executed here before altered = record {
  executed = places;
  order = executed.found.order;
  good = λ place is_executed. executed.good place (executed.found.all place is_executed);
  before = take k places;
  behind = drop (k + 1) places;
  split = split_at places k writer here;
  none_before = λ place ins there allowed. before place there ins allowed;
  ins = altered.ins;
  first = altered.first;
  lowest = altered.lowest;
}

-- all places stand before the end of the locations
pub all_taken : (locations : List Location) (places : List ℕ) (k : ℕ) → numbers locations ≡ places
    → length locations ≤ k → take k places ≡ places
all_taken locations places k same past =
    take_all k places (omega
    (arith, past, ap (λ (ns : List ℕ). length ns) same, length-map locations (λ (one : Location). one.number)))

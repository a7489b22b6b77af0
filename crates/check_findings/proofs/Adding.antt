-- Findings that are added one after the other.
use Rattle.std.proofs.Common.{◌≡◌, ℕ, suc, ◌+◌, ◌-◌, ◌<◌, ◌≤◌, Bool, true, false, List, ◌∷◌, ◌++◌, map, length, get_or, []}
use Rattle.std.proofs.Common.{take}
use Rattle.std.proofs.Common.{Some, ap, sym, ◌∙◌, arith, append_assoc}
use Rattle.std.specs.Prelude.{filter, flat_map, if◌then◌else◌, slice_get}
use Rattle.std.specs.List.{range_with_len}
use Rattle.std.proofs.lemmas.Grind.{flat_map-append}
use Rattle.std.proofs.lemmas.List.{append-nil, take_more}
use Rattle.std.proofs.lemmas.Simd.{map-map}
use Rattle.std.proofs.lemmas.Option.{get_or_from_slice_get, slice_get_within}
use Rattle.base_words.specs.declared.location.Location.{Location}
use Rattle.flow_graph.specs.Executed.{with_new}
use Rattle.flow_graph.proofs.Additions.{with_new_append}
use Rattle.check_findings.specs.Finding.{Finding}

-- one more location whose findings were added
pub added_some : (f : ℕ → List Finding) (before found added : List Finding) (places : List ℕ) (k place : ℕ)
    → slice_get places k ≡ Some place → found ≡ before ++ flat_map f (take k places) → added ≡ found ++ f place
    → added ≡ before ++ flat_map f (take (k + 1) places)
added_some f before found added places k place here so_far more =
    let inside : k < length places = slice_get_within places k place here in
    let at : get_or places k place ≡ place = get_or_from_slice_get places k place place here in
    more ∙ ap (λ (all : List Finding). all ++ f place) so_far
    ∙ append_assoc before (flat_map f (take k places)) (f place)
    ∙ sym (ap (λ (all : List Finding). before ++ all)
    (ap (flat_map f) (take_more places k place inside) ∙ flat_map-append f (take k places) (get_or places k place ∷ [])
    ∙ ap (λ (xs : List Finding). flat_map f (take k places) ++ xs) (append-nil (f (get_or places k place)))
    ∙ ap (λ (one : ℕ). flat_map f (take k places) ++ f one) at))

-- the numbers from one on, that one first
pub range_first : (number end : ℕ) → number < end
    → range_with_len number (end - number) ≡ number ∷ range_with_len (number + 1) (end - (number + 1))
range_first number end below =
    ap (range_with_len number) (long number end below)
  where
    long : (number end : ℕ) → number < end → end - number ≡ suc (end - (number + 1))
    long number end below = omega (arith, below)

filter_first : (p : ℕ → Bool) (x : ℕ) (xs : List ℕ) (answer : Bool) → p x ≡ answer
    → filter p (x ∷ xs) ≡ (if answer then x ∷ filter p xs else filter p xs)
filter_first p x xs answer is = ap (λ (b : Bool). if b then x ∷ filter p xs else filter p xs) is

module _ (p : ℕ → Bool) (places : List ℕ) (number end : ℕ) (below : number < end) where
  -- a word that isn't altered
  pub word_passed : p number ≡ false
      → with_new places (filter p (range_with_len (number + 1) (end - (number + 1))))
      ≡ with_new places (filter p (range_with_len number (end - number)))
  word_passed is =
      sym (ap (λ (xs : List ℕ). with_new places (filter p xs)) (range_first number end below)
      ∙ ap (with_new places) (filter_first p number (range_with_len (number + 1) (end - (number + 1))) false is))

  -- one that is
  pub word_added : (more : List ℕ) → p number ≡ true → more ≡ with_new places (number ∷ [])
      → with_new more (filter p (range_with_len (number + 1) (end - (number + 1))))
      ≡ with_new places (filter p (range_with_len number (end - number)))
  word_added more is grown =
      let rest : List ℕ = filter p (range_with_len (number + 1) (end - (number + 1))) in
      ap (λ (xs : List ℕ). with_new xs rest) grown
      ∙ sym (ap (λ (xs : List ℕ). with_new places (filter p xs)) (range_first number end below)
      ∙ ap (with_new places) (filter_first p number (range_with_len (number + 1) (end - (number + 1))) true is)
      ∙ with_new_append places (number ∷ []) rest)

-- the words that a location alters, by their numbers
pub words_altered : (tells : ℕ → Finding) (before after : List Finding) (words : List Location) (numbers : List ℕ)
    → map (λ (word : Location). word.number) words ≡ numbers
    → after ≡ before ++ map (λ (word : Location). tells word.number) words → after ≡ before ++ map tells numbers
words_altered tells before after words numbers same added =
    added ∙ ap (λ (all : List Finding). before ++ all)
    (sym (map-map tells (λ (word : Location). word.number) words) ∙ ap (map tells) same)

-- two lists that were added in turn
pub added_both : (before between after xs ys : List Finding) → between ≡ before ++ xs → after ≡ between ++ ys
    → after ≡ before ++ (xs ++ ys)
added_both before between after xs ys first second =
    second ∙ ap (λ (all : List Finding). all ++ ys) first ∙ append_assoc before xs ys

-- what one more number of a range adds
pub added_next : (f : ℕ → List Finding) (before after : List Finding) (number below : ℕ) → number < below
    → after ≡ before ++ f number
    → after ++ flat_map f (range_with_len (number + 1) (below - (number + 1)))
    ≡ before ++ flat_map f (range_with_len number (below - number))
added_next f before after number below lt added =
    let rest : List Finding = flat_map f (range_with_len (number + 1) (below - (number + 1))) in
    ap (λ (all : List Finding). all ++ rest) added ∙ append_assoc before (f number) rest
    ∙ sym (ap (λ (xs : List ℕ). before ++ flat_map f xs) (range_first number below lt))

-- one more number of a range that is told by itself
pub told_next : (tells : ℕ → Finding) (before after : List Finding) (number below : ℕ) → number < below
    → after ≡ before ++ tells number ∷ []
    → after ++ map tells (range_with_len (number + 1) (below - (number + 1)))
    ≡ before ++ map tells (range_with_len number (below - number))
told_next tells before after number below lt added =
    let rest : List Finding = map tells (range_with_len (number + 1) (below - (number + 1))) in
    ap (λ (all : List Finding). all ++ rest) added ∙ append_assoc before (tells number ∷ []) rest
    ∙ sym (ap (λ (xs : List ℕ). before ++ map tells xs) (range_first number below lt))

-- no number is left of a range
pub added_all : (f : ℕ → List Finding) (found : List Finding) (number below : ℕ) → below ≤ number
    → found ++ flat_map f (range_with_len number (below - number)) ≡ found
added_all f found number below past =
    ap (λ (n : ℕ). found ++ flat_map f (range_with_len number n)) (none number below past) ∙ append-nil found
  where
    none : (number below : ℕ) → below ≤ number → below - number ≡ 0
    none number below past = omega (arith, past)

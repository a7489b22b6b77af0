-- Flags of the words that are named, set bit by bit: what is set, and what those that are left will
-- set, is what all of them set.
use Rattle.std.proofs.Common.{◌≡◌, ℕ, ◌+◌, ◌<◌, Bool, true, List, [], ◌∷◌, ◌++◌, length, set, take, get_or, Some}
use Rattle.std.proofs.Common.{ap, sym, ◌∙◌, subst, inl, inr, ◌⊎◌, arith}
use Rattle.std.specs.Prelude.{Contains, slice_get, flat_map, ◌↔◌}
use Rattle.std.proofs.lemmas.Bool.{cases_eq}
use Rattle.std.proofs.lemmas.Grind.{flat_map-append}
use Rattle.std.proofs.lemmas.List.{append-nil, take_more}
use Rattle.std.proofs.lemmas.List.Elements.{Contains-append_cases, Contains-append_left, Contains-append_right}
use Rattle.std.proofs.lemmas.Option.{get_or_from_slice_get, slice_get_within}
use Rattle.base_notes.specs.declared.notes.pattern.Pattern.{Pattern}
use Rattle.base_notes.specs.Allowed.{matching}
use Rattle.base_graphs.proofs.Lists.{get_written, get_other}
use Rattle.check_findings.specs.Idle.{names}
use Rattle.check_findings.specs.NamedOf.{IsBetween}

-- the flag of a word is set
abbrev IsSet : List Bool → ℕ → Type 0
IsSet flags word = slice_get flags word ≡ Some true

-- beside the flags that were set before, those of the words with a property are
abbrev pub SetsMore : (ℕ → Type 0) → List Bool → List Bool → Type 0
SetsMore IsMore before after = (word : ℕ) → IsSet after word ↔ (IsSet before word ⊎ IsMore word)

-- what is set, or left, is what was set, or is of all
abbrev pub AreLeft : (ℕ → Type 0) → List Bool → (ℕ → Type 0) → List Bool → Type 0
AreLeft IsOfAll before IsLeft held =
    (word : ℕ) → (IsSet held word ⊎ IsLeft word) ↔ (IsSet before word ⊎ IsOfAll word)

module _ (IsOfAll : ℕ → Type 0) (before : List Bool) where
  pub left_first : (IsLeft : ℕ → Type 0) → ((word : ℕ) → IsLeft word ↔ IsOfAll word) → AreLeft IsOfAll before IsLeft before
  left_first IsLeft all word = (
    λ either. elim either [
      | inl was ↦ inl was
      | inr left ↦ inr ((all word).0 left)
    ],
    λ either. elim either [
      | inl was ↦ inl was
      | inr one ↦ inr ((all word).1 one)
    ],
  )

  pub left_more : (IsLeft IsNow IsLater : ℕ → Type 0) (held after : List Bool) → AreLeft IsOfAll before IsLeft held
      → SetsMore IsNow held after → ((word : ℕ) → IsLeft word ↔ (IsNow word ⊎ IsLater word))
      → AreLeft IsOfAll before IsLater after
  left_more IsLeft IsNow IsLater held after so_far more parts word = (
    λ either. (so_far word).0 (elim either [
      | inl flag ↦ (elim ((more word).0 flag) [
        | inl was ↦ inl was
        | inr now ↦ inr ((parts word).1 (inl now))
      ])
      | inr later ↦ inr ((parts word).1 (inr later))
    ]),
    λ either. elim ((so_far word).1 either) [
      | inl was ↦ inl ((more word).1 (inl was))
      | inr left ↦ (elim ((parts word).0 left) [
        | inl now ↦ inl ((more word).1 (inr now))
        | inr later ↦ inr later
      ])
    ],
  )

  pub left_none : (IsLeft : ℕ → Type 0) (held : List Bool) → AreLeft IsOfAll before IsLeft held
      → ((word : ℕ) → ¬ IsLeft word) → SetsMore IsOfAll before held
  left_none IsLeft held so_far none word = (
    λ flag. (so_far word).0 (inl flag),
    λ either. elim ((so_far word).1 either) [
      | inl flag ↦ flag
      | inr left ↦ absurd (none word left)
    ],
  )

-- one flag more
pub set_one : (flags : List Bool) (place : ℕ) → place < length flags
    → SetsMore (λ word. word ≡ place) flags (set flags place true)
set_one flags place inside word = elim (cases_eq word place) [
  | inl same ↦ (
    λ flag. inr same,
    λ either. ap (slice_get (set flags place true)) same ∙ get_written flags place true inside,
  )
  | inr other ↦ (
    λ flag. inl (sym (get_other flags place word true other) ∙ flag),
    λ either. elim either [
      | inl flag ↦ get_other flags place word true other ∙ flag
      | inr same ↦ absurd (other same)
    ],
  )
]

-- the first of a range, and the others
pub between_first : (from below word : ℕ) → from < below
    → IsBetween from below word ↔ ((word ≡ from) ⊎ IsBetween (from + 1) below word)
between_first from below word first = (
  λ between. elim (cases_eq word from) [
    | inl same ↦ inl same
    | inr other ↦ inr (omega (arith, other, between.0), between.1)
  ],
  λ either. elim either [
    | inl same ↦ (omega (arith, same), omega (arith, same, first))
    | inr between ↦ (omega (arith, between.0), between.1)
  ],
)

-- one more pattern
pub patterns_first : (pattern : Pattern) (left rest : List Pattern) (word : ℕ) → left ≡ pattern ∷ rest
    → Contains (flat_map names (flat_map matching left)) word
    ↔ (Contains (flat_map names (matching pattern)) word ⊎ Contains (flat_map names (flat_map matching rest)) word)
patterns_first pattern left rest word first =
    subst (λ (xs : List ℕ). Contains xs word ↔ (Contains here word ⊎ Contains later word)) (sym parts) (
      λ there. Contains-append_cases here later word there,
      λ either. elim either [
        | inl now ↦ Contains-append_left here later word now
        | inr more ↦ Contains-append_right here later word more
      ],
    )
  where
    here : List ℕ
    here = flat_map names (matching pattern)

    later : List ℕ
    later = flat_map names (flat_map matching rest)

    parts : flat_map names (flat_map matching left) ≡ here ++ later
    parts = ap (λ (ps : List Pattern). flat_map names (flat_map matching ps)) first
        ∙ flat_map-append names (matching pattern) (flat_map matching rest)

-- one more location
pub place_more : (f : ℕ → List ℕ) (before held : List Bool) (places : List ℕ) (k place : ℕ)
    → slice_get places k ≡ Some place
    → ((word : ℕ) → IsSet before word ↔ Contains (flat_map f (take k places)) word)
    → SetsMore (Contains (f place)) before held
    → (word : ℕ) → IsSet held word ↔ Contains (flat_map f (take (k + 1) places)) word
place_more f before held places k place here so_far more word =
    subst (λ (xs : List ℕ). IsSet held word ↔ Contains xs word) (sym parts) (
      λ flag. elim ((more word).0 flag) [
        | inl was ↦ Contains-append_left earlier (f place) word ((so_far word).0 was)
        | inr now ↦ Contains-append_right earlier (f place) word now
      ],
      λ there. (more word).1 (elim (Contains-append_cases earlier (f place) word there) [
        | inl was ↦ inl ((so_far word).1 was)
        | inr now ↦ inr now
      ]),
    )
  where
    earlier : List ℕ
    earlier = flat_map f (take k places)

    inside : k < length places
    inside = slice_get_within places k place here

    parts : flat_map f (take (k + 1) places) ≡ earlier ++ f place
    parts = ap (flat_map f) (take_more places k place inside)
        ∙ flat_map-append f (take k places) (get_or places k place ∷ [])
        ∙ ap (λ (xs : List ℕ). earlier ++ xs) (append-nil (f (get_or places k place)))
        ∙ ap (λ (one : ℕ). earlier ++ f one) (get_or_from_slice_get places k place place here)

-- a part by what goes together with it
pub other_part : (X P Q R : Type 0) → X ↔ (P ⊎ R) → Q ↔ P → X ↔ (Q ⊎ R)
other_part X P Q R parts same = (
  λ x. elim (parts.0 x) [
    | inl p ↦ inl (same.1 p)
    | inr r ↦ inr r
  ],
  λ either. parts.1 (elim either [
    | inl q ↦ inl (same.0 q)
    | inr r ↦ inr r
  ]),
)

-- Words for drum locations that have a location in common.
use Rattle.std.proofs.Common.{◌≡◌, ℕ, zero, suc, ◌+◌, ◌<◌, ◌≤◌, ◌↔◌, inl, inr, List, [], ◌∷◌, length}
use Rattle.std.proofs.Common.{refl, ap, sym, ◌∙◌, subst, arith}
use Rattle.std.proofs.lemmas.Bool.{cases_lt}
use Rattle.std.proofs.lemmas.List.{append-nil}
use Rattle.base_words.specs.declared.word.Word.{Word}
use Rattle.read_replays.specs.InputsText.{words, Repeats, placed}
use Rattle.read_replays.proofs.Marks.{Given}

-- words that are placed from a location on are given to those up to the last
placed_given : (n : ℕ) (ws : List Word) (location : ℕ) → n ≤ location → location < n + length ws
    → Given (placed n ws) location
placed_given n [] location low high = absurd (omega arith)
placed_given n (w ∷ ws) location low high = elim (cases_lt n location) [
  | inl past ↦
      let rest = placed_given (n + 1) ws location (omega arith) (omega arith) in
      (suc rest.0, rest.1, omega (arith, rest.2), rest.3, rest.4)
  | inr upto ↦
      let same : n ≡ location = omega arith in
      (0, (n, w), omega arith, refl, same)
]

-- and to no others
placed_range : (n : ℕ) (ws : List Word) (location : ℕ) → Given (placed n ws) location
    → (n ≤ location) × (location < n + length ws)
placed_range n [] location (k, one, within, here, at) = absurd (omega arith)
placed_range n (w ∷ ws) location (zero, one, within, here, at) =
    let same : n ≡ location = ap (λ (g : ℕ × Word). g.0) here ∙ at in
    (omega arith, omega arith)
placed_range n (w ∷ ws) location (suc k, one, within, here, at) =
    let rest = placed_range (n + 1) ws location (k, one, omega arith, here, at) in
    (omega (arith, rest.0), omega (arith, rest.1))

-- two runs of words that have a location in common
abbrev pub HaveCommon : ℕ → ℕ → ℕ → ℕ → Type 0
HaveCommon n count m other =
    (location : ℕ) × (n ≤ location) × (location < n + count) × (m ≤ location) × (location < m + other)

-- words for locations repeat those for others exactly where they have a location in common
pub words_repeat : (n : ℕ) (ws : List Word) (m : ℕ) (vs : List Word)
    → HaveCommon n (length ws) m (length vs) ↔ Repeats (words m vs ∷ []) (words n ws)
words_repeat n ws m vs = (
  λ (location, low, high, from, below). (
    location,
    low,
    high,
    subst (λ (given : List (ℕ × Word)). Given given location) (sym (append-nil (placed m vs)))
        (placed_given m vs location from below),
  ),
  λ (location, low, high, given).
      let range = placed_range m vs location
      (subst (λ (all : List (ℕ × Word)). Given all location) (append-nil (placed m vs)) given) in
      (location, low, high, range.0, range.1),
)

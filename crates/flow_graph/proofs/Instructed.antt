-- The instructions that are allowed at a location, from those that are left of a pattern.
use Rattle.std.proofs.Common.{◌≡◌, ℕ, zero, suc, ◌+◌, ◌-◌, ◌^◌, ◌<◌, ◌≤◌, List, [], ◌∷◌, ◌++◌, length}
use Rattle.std.proofs.Common.{get_or, drop, Some, None, refl, ap, sym, ◌∙◌, inl, inr, arith}
use Rattle.std.proofs.lemmas.Bool.{cases_lt}
use Rattle.std.proofs.lemmas.List.{length-map, drop_more, drop_all}
use Rattle.std.proofs.lemmas.Option.{slice_get_within, get_or_from_slice_get}
use Rattle.std.proofs.lemmas.List.FromFn.{length-range_with_len}
use Rattle.std.specs.List.{range_with_len}
use Rattle.std.specs.Prelude.{slice_get, flat_map}
use Rattle.base_words.specs.declared.instruction.Instruction.{Instruction}
use Rattle.base_words.specs.Instruction.{instruction}
use Rattle.base_notes.specs.declared.notes.pattern.Pattern.{Pattern}
use Rattle.base_notes.specs.Allowed.{matching}
use Rattle.flow_graph.specs.Instructions.{listed_from}

-- no more instructions match a pattern than there are addresses
pub few_match : (pattern : Pattern) → length (matching pattern) ≤ 10 ^ 4
few_match pattern =
    omega (
      arith,
      length-map (range_with_len pattern.d_from (suc pattern.d_to - pattern.d_from))
          (λ d. instruction pattern.op d pattern.i),
      length-range_with_len pattern.d_from (suc pattern.d_to - pattern.d_from),
      pattern.four,
      pattern.ordered,
    )

-- what is left behind a place of a list that has something there, and that has nothing there
drop_at : (xs : List Instruction) (place : ℕ) (x : Instruction) → slice_get xs place ≡ Some x
    → drop place xs ≡ x ∷ drop (place + 1) xs
drop_at xs place x here =
    let inside : place < length xs = slice_get_within xs place x here in
    drop_more xs place x inside
    ∙ ap (λ (y : Instruction). y ∷ drop (place + 1) xs) (get_or_from_slice_get xs place x x here)

drop_past : (xs : List Instruction) (place : ℕ) → slice_get xs place ≡ None → drop place xs ≡ []
drop_past xs place none =
    elim (cases_lt place (length xs))
    [ inl inside ↦ absurd (some xs place inside none) | inr past ↦ drop_all place xs past ]
  where
    some : (xs : List Instruction) (place : ℕ) → place < length xs → slice_get xs place ≡ None → ⊥
    some [] place inside none = omega (arith, inside)
    some (x ∷ xs) zero inside none = cc
    some (x ∷ xs) (suc place) inside none = some xs place (omega (arith, inside)) none

-- the next instruction of patterns
pub listed_first : (patterns : List Pattern) (place : ℕ) (pattern : Pattern) (ins : Instruction) → 1 ≤ length patterns
    → pattern ≡ get_or patterns 0 pattern
    → slice_get (matching pattern) place ≡ Some ins
    → listed_from place patterns ≡ ins ∷ listed_from (place + 1) patterns
listed_first [] place pattern ins some first here = absurd (omega (arith, some))
listed_first (one ∷ patterns) place pattern ins some first here =
    ap (λ (xs : List Instruction). xs ++ flat_map matching patterns)
    (drop_at (matching one) place ins (sym (ap (λ (p : Pattern). slice_get (matching p) place) first) ∙ here))

-- a pattern that has no more
pub listed_behind : (patterns others : List Pattern) (place : ℕ) (pattern : Pattern) → 1 ≤ length patterns
    → pattern ≡ get_or patterns 0 pattern → others ≡ drop 1 patterns
    → slice_get (matching pattern) place ≡ None → listed_from place patterns ≡ listed_from 0 others
listed_behind [] others place pattern some first rest none = absurd (omega (arith, some))
listed_behind (one ∷ patterns) others place pattern some first rest none =
    ap (λ (xs : List Instruction). xs ++ flat_map matching patterns)
    (drop_past (matching one) place (sym (ap (λ (p : Pattern). slice_get (matching p) place) first) ∙ none))
    ∙ from_first patterns ∙ ap (listed_from 0) (sym rest)
  where
    from_first : (ps : List Pattern) → flat_map matching ps ≡ listed_from 0 ps
    from_first [] = refl
    from_first (p ∷ ps) = refl

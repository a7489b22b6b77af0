-- Loops that are listed one after the other, and where none is listed.
use Rattle.std.proofs.Common.{◌≡◌, ℕ, List, [], ◌∷◌, ◌++◌, map, refl, ap, sym, ◌∙◌, subst, inl, inr, append_assoc, Option}
use Rattle.std.proofs.lemmas.List.{append-nil}
use Rattle.base_words.specs.declared.word.Word.{Word}
use Rattle.base_notes.specs.Allowed.{Notes}
use Rattle.flow_graph.specs.Hops.{Node}
use Rattle.check_findings.specs.Finding.{Finding, closes}
use Rattle.check_findings.specs.declared.within.Within.{Within}
use Rattle.check_findings.specs.declared.within.Within.TheVariants as within
use Rattle.check_deck.specs.First.{BeginsWith}
use Rattle.check_deck.specs.Insides.{AreLoops, AreToldInside}

-- one loop more
pub told_more : (IsTold : List (ℕ × ℕ) → ℕ × ℕ → Within → Type 0) (before edges : List (ℕ × ℕ))
    (loops : List Finding) (edge : ℕ × ℕ) (mark : Within) → AreToldInside IsTold before edges loops
    → IsTold (before ++ edges) edge mark
    → AreToldInside IsTold before (edges ++ edge ∷ []) (loops ++ closes edge mark ∷ [])
told_more IsTold before [] loops edge mark none last = (
  mark,
  [],
  subst (λ (all : List (ℕ × ℕ)). IsTold all edge mark) (append-nil before) last,
  ap (λ (all : List Finding). all ++ closes edge mark ∷ []) none,
  refl,
)
told_more IsTold before (first ∷ edges) loops edge mark told last = (
  told.0,
  told.1 ++ closes edge mark ∷ [],
  told.2,
  ap (λ (all : List Finding). all ++ closes edge mark ∷ []) told.3,
  told_more IsTold (before ++ first ∷ []) edges told.1 edge mark told.4
      (subst (λ (all : List (ℕ × ℕ)). IsTold all edge mark)
      (sym (append_assoc before (first ∷ []) edges)) last),
)

module _ (loads : ℕ → Option Word) (notes : Notes) (start : ℕ) (nodes : List Node) where
  -- no edges close loops, and none is listed
  pub none_told : (edges : List (ℕ × ℕ)) (loops : List Finding) → edges ≡ []
      → AreLoops loads notes start nodes edges loops → loops ≡ []
  none_told [] loops none (inl told) = told.2.2
  none_told [] loops none (inr told) = told.1
  none_told (edge ∷ edges) loops none told = cc

  -- the first of them is listed first
  pub first_told : (edge : ℕ × ℕ) (edges : List (ℕ × ℕ)) (loops : List Finding)
      → AreLoops loads notes start nodes (edge ∷ edges) loops
      → (mark : Within) × BeginsWith loops (closes edge mark)
  first_told edge edges loops (inl told) = (told.2.2.0, (told.2.2.1, told.2.2.3))
  first_told edge edges loops (inr told) = (within.Run, (map (λ (one : ℕ × ℕ). closes one within.Run) edges, told.1))

  -- where none is listed no edges close loops
  pub told_none : (edges : List (ℕ × ℕ)) (loops : List Finding) → AreLoops loads notes start nodes edges loops
      → loops ≡ [] → edges ≡ []
  told_none [] loops told none = refl
  told_none (edge ∷ edges) loops told none =
      let first = first_told edge edges loops told in
      let clash : ◌≡◌ {A = List Finding} (closes edge first.0 ∷ first.1.0) [] = sym first.1.1 ∙ none in
      cc

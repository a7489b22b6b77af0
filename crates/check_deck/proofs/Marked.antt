-- The edges of a mark, by its index.
use Rattle.std.proofs.Common.{◌≡◌, ℕ, zero, suc, ◌<◌, List, [], ◌∷◌, map, get_or, refl, ap, ◌∙◌, arith, length}
use Rattle.std.proofs.lemmas.List.{length-map}
use Rattle.base_notes.specs.declared.notes.mark.Mark.{Mark}
use Rattle.base_notes.specs.Marks.{edges_of}
use Rattle.check_deck.specs.Findings.{edges_at}

edges_there : (marks : List Mark) (k : ℕ) (d : List (ℕ × ℕ)) → k < length marks
    → get_or (map edges_of marks) k d ≡ edges_at marks k
edges_there [] k d inside = absurd (omega (arith, inside))
edges_there (mark ∷ marks) zero d inside = refl
edges_there (mark ∷ marks) (suc k) d inside = edges_there marks k d (omega (arith, inside))

-- as the code comes to them
pub edges_here : (marks : List (List (ℕ × ℕ))) (of : List Mark) (k : ℕ) (edges : List (ℕ × ℕ)) → marks ≡ map edges_of of
    → k < length marks → edges ≡ get_or marks k edges → edges ≡ edges_at of k
edges_here marks of k edges same inside here =
    here ∙ ap (λ (all : List (List (ℕ × ℕ))). get_or all k edges) same
    ∙ edges_there of k edges (omega (arith, inside, ap length same, length-map of edges_of))

-- Edges: steps from one location onto another, by the locations' numbers.
use Rattle.std.specs.Prelude.{◌≡◌, ℕ, ◌==◌, ◌&&◌, Bool, false, List, [], ◌∷◌}
use Rattle.std.specs.List.{list_any}

-- the edge leads from the one location onto the other
abbrev pub leads : ℕ → ℕ → ℕ × ℕ → Bool
leads from onto edge = edge.0 == from && edge.1 == onto

-- none of the edges is there twice
abbrev pub StandOnce : List (ℕ × ℕ) → Type 0
StandOnce [] = Unit {0}
StandOnce (edge ∷ edges) =
    (list_any (λ other. leads other.0 other.1 edge) edges ≡ false) × StandOnce edges

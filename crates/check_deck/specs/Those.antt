-- Those of a list that have a property.
use Rattle.std.specs.Prelude.{◌≡◌, List, [], ◌∷◌, ◌⊎◌}

-- these are those of a list that have a property, in order
abbrev pub AreThose : {X : Type 0} → (X → Type 0) → List X → List X → Type 0
AreThose IsOne [] those = those ≡ []
AreThose {X} IsOne (x ∷ xs) those =
    (IsOne x × ((others : List X) × (those ≡ x ∷ others) × AreThose IsOne xs others))
    ⊎ (¬ IsOne x × AreThose IsOne xs those)

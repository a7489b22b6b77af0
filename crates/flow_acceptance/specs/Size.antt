-- When the analysis of a deck is too large.
use Rattle.std.specs.Prelude.{◌≡◌, ℕ, ◌<◌}
use Rattle.flow_graph.specs.declared.refusal.Refusal.{Refusal}
use Rattle.flow_graph.specs.declared.refusal.Refusal.TheVariants.{TooLarge}

-- the refusal has this product, which is too large
abbrev pub IsTooMuch : ℕ → Refusal → Type 0
IsTooMuch product (TooLarge told) = (told ≡ product) × (4000000 < product)
IsTooMuch product _ = ⊥

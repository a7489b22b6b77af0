use Rattle.std.proofs.Common.{◌≡◌, ℕ, List, [], ◌∷◌, length, refl, ap, sym, ◌∙◌}
use Rattle.toml.specs.Data.{array}
use Rattle.toml.specs.View.{view, items_view}
use Rattle.toml.specs.declared.value.Value.{Value}
use Rattle.read_toml.specs.LongMarks.{edge_of_value}
use Rattle.read_toml.proofs.TablesFaults.{array_from}
use Rattle.read_toml.proofs.notes.read_edges.ends_of.Goals as goal

other_ends : (vs : List Value) → (length vs ≡ 2 → ⊥) → (let none : ℕ × ℕ = (0, 0) in none) ≡ edge_of_value (array (items_view vs))
other_ends [] other = refl
other_ends (a ∷ []) other = refl
other_ends (a ∷ b ∷ []) other = absurd (other refl)
other_ends (a ∷ b ∷ c ∷ more) other = refl

pub returns-then-len-ne2 : goal.returns-then-len-ne2
returns-then-len-ne2 c =
    other_ends c.in-Some.ends.now.items (λ many. c.if-len-ne2.true (c.len.ensures ∙ c.in-Some.ends.now.ok.0 ∙ many))
    ∙ ap edge_of_value (sym (array_from (view c.args.value.now) (items_view c.in-Some.ends.now.items) (sym c.in-Some.ensures)))

-- Whether a number is among others, as the code asks for it.
use Rattle.std.proofs.Common.{◌≡◌, ℕ, Bool, true, false, List, Option, Some, None, refl, sym}
use Rattle.std.specs.Prelude.{Contains, IfNone, IfSome, is_some, slice_get}
use Rattle.base_graphs.proofs.Lists.{contains_from_get}
use Rattle.flow_graph.specs.Taken.{is_among}
use Rattle.flow_graph.proofs.Orders.{any_contains, contains_any}

-- a place was found, or the number isn't among them
pub among_found : (xs : List ℕ) (x : ℕ) (found : Option ℕ) → IfSome found (λ index. slice_get xs index ≡ Some x)
    → IfNone found (¬ Contains xs x) → is_some found ≡ is_among xs x
among_found xs x (Some index) at none = sym (contains_any xs x (contains_from_get xs index x at))
among_found xs x None at none = absent (is_among xs x) refl
  where
    absent : (answer : Bool) → is_among xs x ≡ answer → false ≡ answer
    absent true there = absurd (none (any_contains xs x there))
    absent false there = refl

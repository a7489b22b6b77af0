-- In which order pieces are numbered, as the code finds it.
use Rattle.std.specs.Prelude.{◌≡◌, ℕ, suc, ◌<◌, List, [], length, slice_get, unwrap_or, Some}
use Rattle.flow_walks.specs.declared.piece.Piece.{Piece}
use Rattle.ceiling_rounds.specs.Order.{never, through_behind, Through}

-- behind how many pieces one first begins
abbrev pub first_in : List ℕ → ℕ → ℕ
first_in firsts number = unwrap_or (slice_get firsts number) 0

-- each of so many pieces is the next that comes to its end where it first begins
pub record AreThrough (firsts : List ℕ) (limit : ℕ) (before : List Through) : Type 0 where
  pub each : length before ≡ limit
  pub next : (number : ℕ) → number < limit
      → unwrap_or (slice_get before number) never (first_in firsts number) ≡ Some (suc number)

-- so is each of these
abbrev pub AreAllThrough : List ℕ → List Piece → Type 0
AreAllThrough firsts pieces = AreThrough firsts (length pieces) (through_behind [] pieces)

-- How often pieces are named, as far as a usize counts.
use Rattle.std.specs.Prelude.{◌≡◌, ℕ, ◌+◌, ◌<◌, ◌==◌, min, nat_lt, List, length, filter, flat_map}
use Rattle.std.specs.Prelude.{slice_index}
use Rattle.flow_walks.specs.declared.piece.Piece.{Piece}
use Rattle.flow_walks.specs.Pieces.{named}

-- how often a name is among these
abbrev pub times_in : List ℕ → ℕ → ℕ
times_in names number = length (filter (λ other. other == number) names)

-- the counts are those before, and of these names
pub record HasCounted (before after names : List ℕ) : Type 0 where
  pub each : length after ≡ length before
  pub counts : (number : ℕ) → number < length before → slice_index after number
      ≡ min 18446744073709551615 (slice_index before number + times_in names number)

-- whether a count is more than one is known
pub record AreCounted (counts : List ℕ) (pieces : List Piece) : Type 0 where
  pub each : length counts ≡ length pieces
  pub often : (number : ℕ) → number < length pieces → nat_lt 1 (slice_index counts number)
      ≡ nat_lt 1 (times_in (flat_map named pieces) number)

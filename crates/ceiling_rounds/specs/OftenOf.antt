-- How often pieces come, while it is worked out from the last one down.
use Rattle.std.specs.Prelude.{◌≡◌, ℕ, zero, suc, ◌+◌, ◌*◌, List, drop, length, sum_by, get_or}
use Rattle.flow_walks.specs.declared.piece.Piece.{Piece}
use Rattle.flow_walks.specs.declared.piece.Piece.TheVariants as piece

-- what so many pieces stand for, each as often as it comes
abbrev pub owed : (ℕ → ℕ) → List ℕ → ℕ → ℕ
owed of_piece often zero = 0
owed of_piece often (suc count) =
    owed of_piece often count + get_or often count 0 * of_piece count

-- what a piece stands for, by what those stand for that it names
abbrev pub by_named : (ℕ → ℕ) → Piece → ℕ
by_named of_piece (piece.Hop one) = 0
by_named of_piece (piece.Row pieces) = sum_by of_piece pieces.items
by_named of_piece (piece.Rounds rounds) = rounds.times * of_piece rounds.piece

-- how many hops a piece is itself
abbrev pub hops_in : Piece → ℕ
hops_in (piece.Hop one) = 1
hops_in _ = 0

-- Pieces below the limit come more often than before: what they stand for is more by this.
pub record HasShared (limit : ℕ) (before after : List ℕ) (more : (ℕ → ℕ) → ℕ) : Type 0 where
  pub each : length after ≡ length before
  pub others : drop limit after ≡ drop limit before
  pub owed : (of_piece : ℕ → ℕ)
      → owed of_piece after limit ≡ owed of_piece before limit + more of_piece

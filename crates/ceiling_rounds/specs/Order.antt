-- In which order pieces are numbered.
use Rattle.std.specs.Prelude.{◌≡◌, ℕ, suc, ◌-◌, ◌==◌, nat_lt, if◌then◌else◌, List, [], ◌∷◌, ◌++◌}
use Rattle.std.specs.Prelude.{length, slice_get, unwrap_or, Option, Some, None}
use Rattle.flow_walks.specs.declared.piece.Piece.{Piece}
use Rattle.flow_walks.specs.declared.piece.Piece.TheVariants as piece

-- Who goes through a walk piece by piece comes to each for a first time. A way through says how
-- many pieces he has come to the end of when he is through, where so many were before; `None` where
-- they aren't the first so many.
abbrev pub Through : Type 0
Through = ℕ → Option ℕ

abbrev pub on_from : Option ℕ → Through → Option ℕ
on_from None next = None
on_from (Some ended) next = next ended

-- nothing is through a piece that isn't there
abbrev pub never : Through
never ended = None

-- through the piece with this number, unless he has been
abbrev pub through_at : List Through → ℕ → Through
through_at before number ended =
    if nat_lt number ended then Some ended else unwrap_or (slice_get before number) never ended

-- through pieces in a row
abbrev pub through_row : List Through → List ℕ → Through
through_row before [] ended = Some ended
through_row before (number ∷ numbers) ended =
    on_from (through_at before number ended) (through_row before numbers)

-- through what a piece names
abbrev pub through_by : List Through → Piece → Through
through_by before (piece.Hop one) ended = Some ended
through_by before (piece.Row pieces) ended = through_row before pieces.items ended
through_by before (piece.Rounds rounds) ended = through_at before rounds.piece ended

-- Then the piece itself is at its end. That is the one with this number, if those below it were.
abbrev pub closing : ℕ → Through
closing number ended = if ended == number then Some (suc ended) else None

-- through each of these pieces, by those before it
abbrev pub through_behind : List Through → List Piece → List Through
through_behind before [] = before
through_behind before (piece ∷ pieces) =
    through_behind
    (before ++ (λ ended. on_from (through_by before piece ended) (closing (length before))) ∷ [])
    pieces

-- The pieces are numbered in the order in which a walk first comes to their ends, the last at its
-- own end: so each is of use, and names earlier ones alone.
abbrev pub AreInOrder : List Piece → Type 0
AreInOrder pieces =
    through_at (through_behind [] pieces) (length pieces - 1) 0 ≡ Some (length pieces)

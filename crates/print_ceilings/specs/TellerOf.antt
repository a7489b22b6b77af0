-- How the code tells pieces.
use Rattle.std.specs.Prelude.{◌≡◌, ℕ, ◌<◌, List, [], length, slice_index, sum_by, take}
use Rattle.base_notes.specs.Entries.{entry_in}
use Rattle.flow_walks.specs.declared.piece.Piece.{Piece}
use Rattle.flow_walks.specs.Pieces.{spelled_behind, spelled_of}
use Rattle.ceiling_rounds.specs.InRounds.{lasting_of, pieces_of, takes}
use Rattle.print_ceilings.specs.declared.teller.Teller.{Teller}
use Rattle.print_ceilings.specs.CountsOf.{AreCounted}
use Rattle.print_ceilings.specs.EndsOf.{AreAllEnds}
use Rattle.print_ceilings.specs.RoundsText.{tell_behind, tell_by, tell_named, tell_row, Telling}

abbrev pub pieces_in : Teller → List Piece
pieces_in teller = pieces_of teller.walk.now

-- how long each piece takes
abbrev pub lasts_of : Teller → List ℕ
lasts_of teller = lasting_of teller.walk.now

-- What is known of the pieces is right.
pub record IsTeller (teller : Teller) : Type 0 where
  pub ends : AreAllEnds teller.ends.now (spelled_behind [] (pieces_in teller))
  pub counts : AreCounted teller.named.now (pieces_in teller)
  pub each : length (lasts_of teller) ≡ length (pieces_in teller)
  pub lasts : (number : ℕ) → number < length (pieces_in teller)
      → slice_index (lasts_of teller) number
      ≡ sum_by (takes (entry_in teller.times.now)) (spelled_of (pieces_in teller) number)

-- how the pieces below a limit are told
unfoldable pub tellings : Teller → ℕ → List Telling
tellings teller limit =
    tell_behind (entry_in teller.times.now) (pieces_in teller) [] (take limit (pieces_in teller))

-- by them a piece that is named, pieces in a row, and the next piece
unfoldable pub named_told : Teller → ℕ → ℕ → Telling
named_told teller limit number = tell_named (pieces_in teller) (tellings teller limit) number

unfoldable pub row_told : Teller → ℕ → List ℕ → Telling
row_told teller limit numbers = tell_row (named_told teller limit) numbers

unfoldable pub piece_told : Teller → ℕ → Piece → Telling
piece_told teller number one =
    tell_by (entry_in teller.times.now) (pieces_in teller) (tellings teller number) one

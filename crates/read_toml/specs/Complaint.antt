-- Where bytes stop being a document.
use Rattle.std.specs.Prelude.{◌≡◌, ℕ, ◌+◌, ◌≤◌, ◌==◌, ◌&&◌, nat_le, if◌then◌else◌, Bool, List, []}
use Rattle.std.specs.Prelude.{◌∷◌, Option, Some, None, length, take, count_by}
use Rattle.read_toml.specs.declared.complaint.Complaint.{Complaint}
use Rattle.read_toml.specs.Refused.{IsDocument}
use Rattle.toml.specs.Data.{Members}

-- the byte ends a line
abbrev pub is_feed : ℕ → Bool
is_feed byte = byte == 10

-- the byte is a further one of a character in UTF-8, not its first
abbrev pub is_continuation : ℕ → Bool
is_continuation byte = nat_le 128 byte && nat_le byte 191

-- The column behind some bytes, of which the first stands at this column. A line's first is 1.
abbrev pub column_behind : ℕ → List ℕ → ℕ
column_behind column [] = column
column_behind column (byte ∷ bytes) = column_behind
    (if is_feed byte then 1 else if is_continuation byte then column else column + 1) bytes

-- The line and the column of the place behind the first `offset` bytes. Lines and columns count
-- from 1; a column counts characters.
abbrev pub line_at : List ℕ → ℕ → ℕ
line_at bytes offset = 1 + count_by is_feed (take offset bytes)

abbrev pub column_at : List ℕ → ℕ → ℕ
column_at bytes offset = column_behind 1 (take offset bytes)

-- the complaint names a place in the bytes, or the one behind them
pub record IsAtOffset (bytes : List ℕ) (complaint : Complaint) : Type 0 where
  pub offset : ℕ
  pub within : offset ≤ length bytes
  pub line : complaint.line ≡ line_at bytes offset
  pub column : complaint.column ≡ column_at bytes offset

-- the bytes are a document where there is no complaint, and none where there is one
abbrev pub Complains : List ℕ → Option Complaint → Type 0
Complains bytes None = (whole : Members) × IsDocument bytes whole
Complains bytes (Some complaint) = ((whole : Members) → ¬ IsDocument bytes whole)
    × IsAtOffset bytes complaint

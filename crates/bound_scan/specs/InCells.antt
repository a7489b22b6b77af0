-- What is kept at the keys, as cells hold it.
use Rattle.std.specs.Prelude.{◌≡◌, ℕ, ◌*◌, ◌/◌, ◌<◌, ◌≤◌, true, List, length, map, slice_get}
use Rattle.std.specs.Prelude.{Option, Some, Contains}
use Rattle.std.specs.List.{range_with_len}
use Rattle.bound_scan.specs.declared.cells.Cells.{Cells}
use Rattle.bound_scan.specs.declared.cells.entries.Entries.{Entries}
use Rattle.bound_scan.specs.declared.cells.Onto.{Onto}
use Rattle.bound_scan.specs.declared.latest.Latest.{Latest}
use Rattle.bound_scan.specs.declared.worst.Worst.{Worst}
use Rattle.bound_scan.specs.InEntries.{AreKept, kept_of, pairs_of}

-- how many keys there are
abbrev pub size_of : Cells → ℕ
size_of cells = cells.counts * cells.words

-- what is kept at the keys below `size`, in their order
abbrev pub kept_below : Entries → ℕ → List (Option Latest)
kept_below entries size = map (kept_of entries) (range_with_len 0 size)

-- what is kept at the keys
abbrev pub kept_in : Cells → List (Option Latest)
kept_in cells = kept_below cells.entries (size_of cells)

-- A key is one of the cells', and its round is noted.
abbrev pub IsNoted : Cells → ℕ → Type 0
IsNoted cells key = (key < size_of cells)
    × (slice_get cells.rounds.items (key / cells.words) ≡ Some true)

-- The cells are in order: the keys of the entries are noted, and few.
pub record AreHeld (cells : Cells) : Type 0 where
  pub kept : AreKept cells.entries
  pub rounds : length cells.rounds.items ≡ cells.counts
  pub noted : (key : ℕ) (entry : Worst) → Contains (pairs_of cells.entries) (key, entry)
      → IsNoted cells key
  pub few : size_of cells ≤ 4000000

-- what no raise changes: the start angle, and how many locations and counts there are
pub record SameScan (old new : Cells) : Type 0 where
  pub angle : new.entries.angle ≡ old.entries.angle
  pub words : new.words ≡ old.words
  pub counts : new.counts ≡ old.counts

-- Each key's entry says where the key is, and with which counts.
abbrev pub HaveEntries : (ℕ → ℕ) → (ℕ → ℕ) → Cells → Type 0
HaveEntries place_of counts_of cells =
    (key : ℕ) (entry : Worst) → Contains (pairs_of cells.entries) (key, entry)
    → (entry.place.number ≡ place_of key) × (entry.counts ≡ counts_of key)

-- A hop of a key goes on at a later key, of this round.
pub record IsOnward (cells : Cells) (from : ℕ) (onto : Onto) : Type 0 where
  pub there : onto.key < size_of cells
  pub round : onto.key / cells.words ≡ onto.round
  pub later : from < onto.key

-- The lines of the table of worst times, in order. A location has four digits, and other numbers
-- are plain decimal.
use Rattle.std.specs.Prelude.{◌≡◌, ℕ, suc, ◌<◌, ◌≤◌, ◌⊎◌, List, ◌++◌, codes, decimal, flat_map}
use Rattle.std.specs.Prelude.{slice_get, Some}
use Rattle.std.specs.List.Sorted.{IsPermutation}
use Rattle.base_words.specs.Numeral.{digits_of}
use Rattle.base_notes.specs.declared.notes.mark.Mark.{Mark}
use Rattle.bound_scan.specs.Table.{Row, counts_for}

-- Of two entries, that of the lower location comes before; of those of one location, that with the
-- lower number of counts.
abbrev pub ComesBefore : Row → Row → Type 0
ComesBefore a b = (a.place < b.place) ⊎ ((a.place ≡ b.place) × (a.counts ≤ b.counts))

-- These are the same entries, in order.
pub record AreInOrder (rows sorted : List Row) : Type 0 where
  pub same : IsPermutation rows sorted
  pub order : (k : ℕ) (a b : Row) → slice_get sorted k ≡ Some a → slice_get sorted (suc k) ≡ Some b
      → ComesBefore a b

-- a mark's count
abbrev pub count_text : ℕ → List ℕ
count_text count = codes " " ++ decimal count

-- the line of an entry
abbrev pub row_line : List Mark → Row → List ℕ
row_line marks row =
    digits_of 4 row.place ++ codes " angle " ++ decimal row.angle ++ codes " counts"
    ++ flat_map count_text (counts_for marks row.counts) ++ codes " time " ++ decimal row.time
    ++ codes "\n"

abbrev pub table_text : List Mark → List Row → List ℕ
table_text marks rows = flat_map (row_line marks) rows

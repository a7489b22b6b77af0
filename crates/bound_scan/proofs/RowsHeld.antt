-- The entries that a finished scan holds are the rows of its keys, each once, in the order in which they were first led
-- to.
use Rattle.std.proofs.Common.{◌≡◌, ℕ, zero, suc, ◌+◌, ◌-◌, ◌*◌, ◌%◌, ◌<◌, List, [], ◌∷◌, map, refl}
use Rattle.std.proofs.Common.{ap, sym, ◌∙◌, subst, Some, arith}
use Rattle.std.specs.Prelude.{slice_get, Contains}
use Rattle.std.specs.Map.{keys_of as map_keys, values_of}
use Rattle.base_graphs.proofs.Lists.{contains_at, contains_map, one_place}
use Rattle.base_graphs.proofs.Lists.{contains_from_get}
use Rattle.flow_graph.specs.Accepted.{counts_of}
use Rattle.flow_graph.specs.Walk.{Setting}
use Rattle.bound_scan.specs.declared.cells.Cells.{Cells}
use Rattle.bound_scan.specs.declared.latest.Latest.{Latest}
use Rattle.bound_scan.specs.declared.key_hop.KeyHop.{KeyHop}
use Rattle.bound_scan.specs.declared.worst.Worst.{Worst}
use Rattle.bound_scan.specs.InCells.{kept_in, size_of}
use Rattle.bound_scan.specs.InEntries.{latest_at, pairs_of}
use Rattle.bound_scan.specs.Keys.{keys_of, IsOrdered}
use Rattle.bound_scan.specs.RowOf.{counts_number, row_in, row_of}
use Rattle.bound_scan.specs.Scanned.{cell_at}
use Rattle.bound_scan.specs.Table.{start_angle, Row, AreApart}
use Rattle.bound_scan.specs.ScanOf.{AreCells}
use Rattle.bound_scan.proofs.EntryKeys.{different_keys, entry_kept, pair_at}
use Rattle.bound_scan.proofs.InCellsLaws.{is_entered, kept_is, IsEntered}
use Rattle.bound_scan.proofs.Rows.{AreRowsOf, IsRowOf, one_row}

-- a row is an entry's
row_entry : (entries : List Worst) (k : ℕ) (row : Row) → slice_get (map row_in entries) k ≡ Some row → (entry : Worst)
    × (slice_get entries k ≡ Some entry) × (row_in entry ≡ row)
row_entry [] k row at = absurd (cc)
row_entry (entry ∷ entries) zero row at =
    let same : row_in entry ≡ row = cc in
    (entry, refl, same)
row_entry (entry ∷ entries) (suc k) row at = row_entry entries k row at

-- rows of which each is in its place alone
apart_from_places : (rows : List Row)
    → ((j k : ℕ) (a b : Row) → slice_get rows j ≡ Some a → slice_get rows k ≡ Some b → a.place ≡ b.place
    → a.counts ≡ b.counts → j ≡ k) → AreApart rows
apart_from_places [] one = tt
apart_from_places (row ∷ rows) one = (
  λ other there places counts.
      let at = contains_at rows other there in
      let same : 0 ≡ suc at.0 = one 0 (suc at.0) row other refl at.1 places counts in
      omega (arith, same),
  apart_from_places rows (λ j k a b here there places counts.
      let same : suc j ≡ suc k = one (suc j) (suc k) a b here there places counts in
      omega (arith, same)),
)

-- There are as many cells as keys.
pub cells_size : (g : Setting) (order : List ℕ) (cells : Cells) → AreCells g order cells
    → size_of cells ≡ keys_of g.notes.marks order
cells_size g order cells are =
    ap (λ (n : ℕ). n * cells.words) are.counts ∙ ap (λ (n : ℕ). counts_of g.notes.marks * n) are.words

module _ (g : Setting) (order : List ℕ) (cells : Cells) (ordered : IsOrdered g.loads g.notes g.start order)
    (are : AreCells g order cells) where
  abbrev pub size : ℕ
  size = keys_of g.notes.marks order

  abbrev pub pairs : List (ℕ × Worst)
  pairs = pairs_of cells.entries

  abbrev pub rows : List Row
  rows = map row_in (values_of pairs)

  -- an entry is the row of its key
  entry_is : (key : ℕ) (entry : Worst) (origin : KeyHop) → Contains pairs (key, entry)
      → row_of g order key (latest_at cells.entries.angle key entry origin) ≡ row_in entry
  entry_is key entry origin there =
      let right = are.entries key entry there in
      let timed = are.held.kept.timed key entry there in
      let angle : ℕ = cells.entries.angle in
      let row : ℕ → ℕ → ℕ → ℕ → Row =
      λ place angle counts time. record { place = place; angle = angle; counts = counts; time = time } in
      let time : angle + entry.time - start_angle g.start ≡ entry.time = omega (arith, are.angle) in
      ap (λ (n : ℕ). row n ((angle + entry.time) % 50) (counts_number g.notes.marks order key)
      (angle + entry.time - start_angle g.start)) (sym right.0)
      ∙ ap (λ (n : ℕ). row entry.place.number n (counts_number g.notes.marks order key)
      (angle + entry.time - start_angle g.start)) (sym timed.1)
      ∙ ap (λ (n : ℕ). row entry.place.number entry.angle n (angle + entry.time - start_angle g.start))
      (sym right.1)
      ∙ ap (λ (n : ℕ). row entry.place.number entry.angle entry.counts n) time

  -- the entry that is a row, with its key
  row_pair : (k : ℕ) (row : Row) → slice_get rows k ≡ Some row → (entry : Worst) × (key : ℕ)
      × Contains pairs (key, entry) × (slice_get (map_keys pairs) k ≡ Some key) × (row_in entry ≡ row)
  row_pair k row at =
      let one = row_entry (values_of pairs) k row at in
      let own = pair_at pairs k one.0 one.1 in
      (one.0, own.0, contains_from_get pairs k (own.0, one.0) own.1, own.2, one.2)

  -- each entry is that of a key
  entry_from : (row : Row) → Contains rows row → IsRowOf g order (kept_in cells) size row
  entry_from row has =
      let at = contains_at rows row has in
      let one = row_pair at.0 row at.1 in
      let below : one.1 < size_of cells = (are.held.noted one.1 one.0 one.2).0 in
      let from = entry_kept cells.entries.angle one.1 pairs cells.entries.origins.items one.0
      (different_keys (map_keys pairs) are.held.kept.apart)
      are.held.kept.paired one.2 in
      record {
        key = one.1;
        below = omega (arith, below, cells_size g order cells are);
        kept = latest_at cells.entries.angle one.1 one.0 from.0;
        there = kept_is cells one.1 below ∙ from.1;
        is = entry_is one.1 one.0 from.0 one.2 ∙ one.4;
      }

  -- each key at which something is kept has its own
  has_entry : (key : ℕ) (kept : Latest) → cell_at (kept_in cells) key ≡ Some kept
      → Contains rows (row_of g order key kept)
  has_entry key kept there =
      let in_it : IsEntered cells key kept = is_entered cells key kept there in
      let row : row_in in_it.entry ≡ row_of g order key kept =
      sym (entry_is key in_it.entry in_it.origin in_it.there) ∙ ap (row_of g order key) in_it.is in
      subst (Contains rows) row (contains_map row_in (values_of pairs) in_it.entry
      (contains_map (λ (pair : ℕ × Worst). pair.1) pairs (key, in_it.entry) in_it.there))

  -- no two entries are of one place and counts
  entries_apart : AreApart rows
  entries_apart = apart_from_places rows (λ j k a b here there places counts.
      let one = row_pair j a here in
      let two = row_pair k b there in
      let right = are.entries one.1 one.0 one.2 in
      let also = are.entries two.1 two.0 two.2 in
      let same : one.1 ≡ two.1 =
      one_row g order (kept_in cells) one.1 two.1 ordered.different
      (omega (arith, (are.held.noted one.1 one.0 one.2).0, cells_size g order cells are))
      (omega (arith, (are.held.noted two.1 two.0 two.2).0, cells_size g order cells are))
      (sym right.0 ∙ ap (λ (r : Row). r.place) one.4 ∙ places ∙ sym (ap (λ (r : Row). r.place) two.4) ∙ also.0)
      (sym right.1 ∙ ap (λ (r : Row). r.counts) one.4 ∙ counts ∙ sym (ap (λ (r : Row). r.counts) two.4) ∙ also.1) in
      one_place (map_keys pairs) j k one.1 (different_keys (map_keys pairs) are.held.kept.apart) one.3
      (subst (λ (key : ℕ). slice_get (map_keys pairs) k ≡ Some key) (sym same) two.3))

  -- The entries are the rows of the keys.
  pub held_rows : AreRowsOf g order (kept_in cells) size rows
  held_rows = record { from = entry_from; has = λ key kept below there. has_entry key kept there; apart = entries_apart }

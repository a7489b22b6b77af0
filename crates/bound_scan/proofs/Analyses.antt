-- What a finished scan shows.
use Rattle.std.proofs.Common.{◌≡◌, ℕ, ◌-◌, ◌*◌, ◌<◌, ◌≤◌, List, length, map, ap, sym, ◌∙◌}
use Rattle.std.proofs.Common.{subst, arith, mul_comm}
use Rattle.std.proofs.Math.Nat.{mul_assoc}
use Rattle.std.proofs.lemmas.List.{length-map}
use Rattle.std.specs.Map.{values_of}
use Rattle.base_notes.specs.declared.times.Times.{Times}
use Rattle.flow_graph.specs.Accepted.{counts_of}
use Rattle.flow_graph.specs.Walk.{Setting}
use Rattle.flow_acceptance.specs.OrderedFlow.{in_order}
use Rattle.flow_walks.specs.Visited.{AreLongest, Visited, IsWalkOf}
use Rattle.flow_walks.specs.Worst.{IsWorst}
use Rattle.bound_scan.specs.declared.analysis.Analysis.{Analysis}
use Rattle.bound_scan.specs.declared.cells.Cells.{Cells}
use Rattle.bound_scan.specs.declared.keys.Keys.{Keys}
use Rattle.bound_scan.specs.declared.latest.Latest.{Latest}
use Rattle.bound_scan.specs.declared.scan.found.Found.{Found}
use Rattle.bound_scan.specs.declared.scan.Scan.{Scan}
use Rattle.bound_scan.specs.FoundOf.{found_bound}
use Rattle.bound_scan.specs.declared.worst.Worst.{Worst}
use Rattle.bound_scan.specs.AnalysisOf.{IsAnalysis, ArePasses, angle_of, bound_of, counts_in_all}
use Rattle.bound_scan.specs.AnalysisOf.{passed_of, rows_of, turns_of, visits_of, words_of}
use Rattle.bound_scan.proofs.EntriesRaised.{are_raised}
use Rattle.bound_scan.proofs.EntryEnds.{ends_of, are_ends, as_many_ends}
use Rattle.bound_scan.specs.Counted.{HasFound, turns_in}
use Rattle.bound_scan.specs.InEntries.{pairs_of}
use Rattle.bound_scan.specs.Keys.{keys_of, IsOrdered}
use Rattle.bound_scan.specs.KeysOf.{setting_of}
use Rattle.bound_scan.specs.RowOf.{row_in}
use Rattle.bound_scan.proofs.Rows.{AreRowsOf, is_table}
use Rattle.bound_scan.proofs.RowSums.{rows_sum}
use Rattle.bound_scan.proofs.RowsHeld.{held_rows}
use Rattle.bound_scan.specs.OfCells.{IsOfCells}
use Rattle.bound_scan.proofs.ShortWalks.{short_walk}
use Rattle.bound_scan.specs.ScanOf.{AreCells, IsDone, setting_in}
use Rattle.bound_scan.specs.Scanned.{Scanned, turns_below}
use Rattle.bound_scan.specs.Table.{start_angle, Row, IsTable}
use Rattle.bound_scan.specs.InCells.{kept_in}
use Rattle.bound_scan.proofs.Worsts.{is_worst}

-- What a finished scan and its walk are, of these keys and this timing table.
pub record IsFound (keys : Keys) (times : Times) (cells : Cells) (made : ℕ) (visits : List Visited) : Type 0 where
  pub are : AreCells (setting_of keys.accepted.now times) (in_order keys.accepted.now) cells
  pub scanned : Scanned (setting_of keys.accepted.now times) (in_order keys.accepted.now)
      (keys_of (setting_of keys.accepted.now times).notes.marks (in_order keys.accepted.now))
      (keys_of (setting_of keys.accepted.now times).notes.marks (in_order keys.accepted.now)) (kept_in cells) cells.last
  pub turns : made
      ≡ turns_below (setting_of keys.accepted.now times) (in_order keys.accepted.now) (kept_in cells)
      (keys_of (setting_of keys.accepted.now times).notes.marks (in_order keys.accepted.now))
  pub walk : IsWalkOf (setting_of keys.accepted.now times) (start_angle (setting_of keys.accepted.now times).start)
      (cells.last.clock - start_angle (setting_of keys.accepted.now times).start) visits
  pub longest : AreLongest (setting_of keys.accepted.now times) (start_angle (setting_of keys.accepted.now times).start)
      visits

-- They are of the keys and the timing table that the scan was given.
pub is_found : {L : Type 0} (keys : Keys) (times : Times) (scan : Scan L) (visits : List Visited) → scan.keys.now ≡ keys
    → scan.times.now ≡ times → IsDone scan
    → IsWalkOf (setting_in scan) (start_angle (setting_in scan).start)
    (scan.cells.last.clock - start_angle (setting_in scan).start) visits
    → AreLongest (setting_in scan) (start_angle (setting_in scan).start) visits
    → IsFound keys times scan.cells scan.steps visits
is_found keys times scan visits same_keys same_times done walk longest =
    let own : IsFound scan.keys.now scan.times.now scan.cells scan.steps visits =
    record { are = done.cells; scanned = done.scanned; turns = done.turns; walk = walk; longest = longest } in
    subst (λ (one : Times). IsFound keys one scan.cells scan.steps visits) same_times
    (subst (λ (one : Keys). IsFound one scan.times.now scan.cells scan.steps visits) same_keys own)

-- the latest end of all is no earlier than the start
pub last_after : (g : Setting) (order : List ℕ) (cells : Cells) → AreCells g order cells
    → Scanned g order (keys_of g.notes.marks order) (keys_of g.notes.marks order) (kept_in cells) cells.last
    → cells.entries.angle ≤ cells.last.clock
last_after g order cells are s =
    omega (arith, are.angle, s.begins.after, s.below s.begins.key s.begins.kept s.begins.there)

-- the rows of finished cells
abbrev rows_in : Cells → List Row
rows_in cells = map row_in (values_of (pairs_of cells.entries))

-- they are few
few_rows : (cells : Cells) → length (rows_in cells) ≤ cells.words * cells.counts
few_rows cells =
    omega (
      arith,
      cells.entries.table.limit,
      cells.keys,
      mul_comm cells.counts cells.words,
      length-map (values_of (pairs_of cells.entries)) row_in,
      length-map (pairs_of cells.entries) (λ (pair : ℕ × Worst). pair.1),
    )

module _ (g : Setting) (order : List ℕ) (cells : Cells) (ordered : IsOrdered g.loads g.notes g.start order)
    (starts : g.start < 2000) (are : AreCells g order cells)
    (s : Scanned g order (keys_of g.notes.marks order) (keys_of g.notes.marks order) (kept_in cells) cells.last) where
  -- they are those of the keys,
  are_rows : AreRowsOf g order (kept_in cells) (keys_of g.notes.marks order) (rows_in cells)
  are_rows = held_rows g order cells ordered are

  -- and the table of worst times,
  rows_table : IsTable g (rows_in cells)
  rows_table = is_table g order (kept_in cells) cells.last ordered starts s (rows_in cells) are_rows

  -- and as many ends were made as they have hops.
  module _ (made : ℕ) (all : made ≡ turns_below g order (kept_in cells) (keys_of g.notes.marks order)) where
    rows_turns : made ≡ turns_in g (rows_in cells)
    rows_turns =
        all
        ∙ sym (rows_sum g order (kept_in cells) ordered.different (keys_of g.notes.marks order) (rows_in cells)
        (omega arith) are_rows)

  few_in : length (rows_in cells) ≤ length order * counts_of g.notes.marks
  few_in =
      subst (λ (words : ℕ). length (rows_in cells) ≤ words * counts_of g.notes.marks) are.words
      (subst (λ (counts : ℕ). length (rows_in cells) ≤ cells.words * counts) are.counts (few_rows cells))

-- So what a finished scan has found is right.
pub has_found : {L : Type 0} (g : Setting) (order : List ℕ) (found : Found L)
    → IsOrdered g.loads g.notes g.start order → g.start < 2000 → AreCells g order found.cells
    → Scanned g order (keys_of g.notes.marks order) (keys_of g.notes.marks order) (kept_in found.cells)
    found.cells.last
    → found.steps ≡ turns_below g order (kept_in found.cells) (keys_of g.notes.marks order)
    → HasFound g (length order) found
has_found g order found ordered starts are s all =
    let cells = found.cells in
    let bound : found_bound found ≡ cells.last.clock - start_angle g.start =
    ap (λ (n : ℕ). cells.last.clock - n) are.angle in
    record {
      worst = subst (IsWorst g) (sym bound) (is_worst g order (kept_in cells) cells.last ordered starts s);
      below = omega (arith, bound, s.last_near, ordered.few);
      table = rows_table g order cells ordered starts are s;
      few = few_in g order cells ordered starts are s;
      turns = rows_turns g order cells ordered starts are s found.steps all;
    }

-- the same, of the cells and the number of ends that it was made of
pub found_in : {L : Type 0} (g : Setting) (order : List ℕ) (cells : Cells) (made : ℕ) (found : Found L)
    → found.cells ≡ cells → found.steps ≡ made
    → IsOrdered g.loads g.notes g.start order → g.start < 2000 → AreCells g order cells
    → Scanned g order (keys_of g.notes.marks order) (keys_of g.notes.marks order) (kept_in cells) cells.last
    → made ≡ turns_below g order (kept_in cells) (keys_of g.notes.marks order) → HasFound g (length order) found
found_in g order cells made found same count ordered starts are s all =
    has_found g order found ordered starts (subst (AreCells g order) (sym same) are)
    (subst (λ (one : Cells). Scanned g order (keys_of g.notes.marks order) (keys_of g.notes.marks order) (kept_in one)
    one.last) (sym same) s)
    (count ∙ all ∙ ap (λ (one : Cells). turns_below g order (kept_in one) (keys_of g.notes.marks order)) (sym same))

-- with each angle there could be more
fifty : (words counts rows : ℕ) → rows ≤ words * counts → rows ≤ words * 50 * counts
fifty words counts rows few =
    omega (arith, few, ap (λ (n : ℕ). n * counts) (mul_comm words 50), mul_assoc 50 words counts)

-- An analysis of finished cells, and of their walk, is right.
pub is_analysis : (g : Setting) (order : List ℕ) (cells : Cells) (made : ℕ) (analysis : Analysis)
    → IsOfCells cells made analysis
    → IsOrdered g.loads g.notes g.start order → g.start < 2000 → AreCells g order cells
    → Scanned g order (keys_of g.notes.marks order) (keys_of g.notes.marks order) (kept_in cells) cells.last
    → made ≡ turns_below g order (kept_in cells) (keys_of g.notes.marks order)
    → IsWalkOf g (start_angle g.start) (cells.last.clock - start_angle g.start) (visits_of analysis)
    → AreLongest g (start_angle g.start) (visits_of analysis)
    → ArePasses g.notes.marks (visits_of analysis) (passed_of analysis)
    → IsAnalysis g analysis
is_analysis g order cells made analysis is_of ordered starts are s all walk longest passed =
    let last : Latest = cells.last in
    let rows : List Row = rows_of analysis in
    let same : rows_in cells ≡ rows = ap (map row_in) (sym is_of.table) in
    let words : words_of analysis ≡ length order = is_of.words ∙ are.words in
    let counts : counts_in_all analysis ≡ counts_of g.notes.marks = is_of.counts ∙ are.counts in
    let angle : angle_of analysis ≡ start_angle g.start = is_of.angle ∙ are.angle in
    let product : words_of analysis * counts_in_all analysis ≡ length order * counts_of g.notes.marks =
    ap (λ (n : ℕ). n * counts_in_all analysis) words ∙ ap (λ (n : ℕ). length order * n) counts in
    let product_in : words_of analysis * counts_in_all analysis ≡ cells.words * cells.counts =
    ap (λ (n : ℕ). n * counts_in_all analysis) is_of.words ∙ ap (λ (n : ℕ). cells.words * n) is_of.counts in
    let bound : bound_of analysis ≡ last.clock - start_angle g.start =
    is_of.bound ∙ ap (λ (n : ℕ). last.clock - n) are.angle in
    let few : length rows ≤ words_of analysis * counts_in_all analysis =
    omega (arith, few_rows cells, ap (λ (all : List Row). length all) same, product_in) in
    let turns : turns_of analysis ≡ turns_in g rows =
    is_of.turns ∙ rows_turns g order cells ordered starts are s made all ∙ ap (turns_in g) same in
    let table : IsTable g rows = subst (IsTable g) same (rows_table g order cells ordered starts are s) in
    record {
      worst = subst (IsWorst g) (sym bound) (is_worst g order (kept_in cells) last ordered starts s);
      walk = subst (λ (n : ℕ). IsWalkOf g n (bound_of analysis) (visits_of analysis)) (sym angle)
          (subst (λ (n : ℕ). IsWalkOf g (start_angle g.start) n (visits_of analysis)) (sym bound) walk);
      longest = subst (λ (n : ℕ). AreLongest g n (visits_of analysis)) (sym angle) longest;
      table = table;
      few = few;
      fifty = fifty (words_of analysis) (counts_in_all analysis) (length rows) few;
      short = λ angle hops walk.
          omega (
            arith,
            product,
            mul_comm (length order) (counts_of g.notes.marks),
            short_walk g order ordered angle
                hops walk,
          );
      counts = counts;
      turns = turns;
      ends = (
        ends_of g rows,
        are_ends g rows table.apart,
        are_raised g order (kept_in cells) last ordered starts s rows
            (subst (AreRowsOf g order (kept_in cells) (keys_of g.notes.marks order)) same
            (are_rows g order cells ordered starts are s)),
        turns ∙ sym (as_many_ends g rows),
      );
      passed = passed;
      below = omega (arith, bound, s.last_near, ordered.few);
    }

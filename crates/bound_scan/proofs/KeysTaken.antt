-- How a key is taken, as a scan holds it.
use Rattle.std.proofs.Common.{◌≡◌, ℕ, zero, suc, ◌+◌, ◌*◌, ◌<◌, ◌≤◌, List, [], length, refl, ap, sym, ◌∙◌, subst}
use Rattle.std.proofs.Common.{Option, Some, None, arith}
use Rattle.std.specs.Prelude.{slice_get, Contains}
use Rattle.base_notes.specs.Allowed.{AreSound}
use Rattle.base_graphs.proofs.Lists.{contains_from_get}
use Rattle.flow_graph.specs.Hops.{Hop, hops}
use Rattle.flow_graph.specs.Walk.{Setting}
use Rattle.bound_scan.specs.declared.cells.Cells.{Cells}
use Rattle.bound_scan.specs.declared.latest.Latest.{Latest}
use Rattle.bound_scan.specs.declared.scan.Scan.{Scan}
use Rattle.bound_scan.specs.Keys.{place_at}
use Rattle.bound_scan.specs.Scanned.{cell_at, Taking, turns_at, turns_below}
use Rattle.bound_scan.specs.ScanOf.{setting_in, order_of, AreCells, IsScanned, IsAgreed}
use Rattle.bound_scan.specs.InCells.{kept_in}
use Rattle.bound_scan.proofs.FewHops.{few_hops}
use Rattle.bound_scan.proofs.Scans.{skip, open_key, close_key}

-- the hops of keys whose cells are the same are as many
pub turns_agree : (g : Setting) (order : List ℕ) (cells cells' : List (Option Latest)) (first : ℕ)
    → ((key : ℕ) → key < first → cell_at cells' key ≡ cell_at cells key)
    → turns_below g order cells' first ≡ turns_below g order cells first
turns_agree g order cells cells' zero same = refl
turns_agree g order cells cells' (suc key) same =
    omega (
      arith,
      turns_agree g order cells cells' key (λ other below. same other (omega (arith, below))),
      ap
          (turns_at g order key) (same key (omega arith)),
    )

-- and few
turns_few_at : (g : Setting) (order : List ℕ) (key : ℕ) (kept : Option Latest) → AreSound g.notes
    → turns_at g order key kept ≤ 2560004
turns_few_at g order key None sound = omega arith
turns_few_at g order key (Some kept) sound = few_hops g.loads g.notes (place_at order key) sound

turns_few : (g : Setting) (order : List ℕ) (cells : List (Option Latest)) (first : ℕ) → AreSound g.notes
    → turns_below g order cells first ≤ 2560004 * first
turns_few g order cells zero sound = omega arith
turns_few g order cells (suc key) sound =
    omega (arith, turns_few g order cells key sound, turns_few_at g order key (cell_at cells key) sound)

-- the hops of a key
abbrev pub hops_at : {L : Type 0} → Scan L → ℕ → List Hop
hops_at scan key = hops (setting_in scan).loads (setting_in scan).notes (place_at (order_of scan) key)

-- a hop that has a number among them is one of them
pub hop_among : {L : Type 0} (scan : Scan L) (key number : ℕ) (hop : Hop) → slice_get (hops_at scan key) number ≡ Some hop
    → Contains (hops_at scan key) hop
hop_among scan key number hop at = contains_from_get (hops_at scan key) number hop at

-- a key at which nothing is kept needs no taking
pub skipped : {L : Type 0} (scan : Scan L) (key : ℕ) → IsScanned scan key → cell_at (kept_in scan.cells) key ≡ None
    → IsScanned scan (key + 1)
skipped scan key is none =
    let next : suc key ≡ key + 1 = omega arith in
    subst (IsScanned scan) next (record {
      keys = is.keys;
      leaps = is.leaps;
      cells = is.cells;
      scanned = skip (setting_in scan) (order_of scan) key (kept_in scan.cells) scan.cells.last none is.scanned;
      turns = omega (arith, is.turns, ap (turns_at (setting_in scan) (order_of scan) key) none);
    })

-- all hops of a key at which something is kept are left
pub opened : {L : Type 0} (scan : Scan L) (key : ℕ) (kept : Latest) (left : List Hop) → IsScanned scan key
    → cell_at (kept_in scan.cells) key ≡ Some kept → left ≡ hops_at scan key
    → Taking (setting_in scan) (order_of scan) key kept.clock left (kept_in scan.cells) scan.cells.last
opened scan key kept left is there all =
    subst (λ (hops : List Hop).
    Taking (setting_in scan) (order_of scan) key kept.clock hops (kept_in scan.cells) scan.cells.last) (sym all)
    (open_key (setting_in scan) (order_of scan) key kept (kept_in scan.cells) scan.cells.last there is.scanned)

-- clocks and turns are far from their limits
pub early_clock : {L : Type 0} (scan : Scan L) (key : ℕ) (kept : Latest) → IsScanned scan key → key < scan.keys.now.size
    → cell_at (kept_in scan.cells) key ≡ Some kept → kept.clock ≤ 2305843009213693952
early_clock scan key kept is below there =
    omega (arith, is.scanned.near key kept there, below, is.keys.size, is.keys.ordered.0.few)

pub few_turns : {L : Type 0} (scan : Scan L) (key count left : ℕ) → IsScanned scan key → key < scan.keys.now.size
    → count + left ≡ scan.steps + length (hops_at scan key) → count < 4611686018427387904
few_turns scan key count left is below so_far =
    omega (
      arith,
      so_far,
      is.turns,
      turns_few (setting_in scan) (order_of scan) (kept_in scan.cells) key is.keys.ordered.0.sound,
      few_hops (setting_in scan).loads (setting_in scan).notes (place_at (order_of scan) key) is.keys.ordered.0.sound,
      below,
      is.keys.size,
      is.keys.ordered.0.few,
    )

-- cells where nothing that is held changes
pub cells_stopped : (g : Setting) (order : List ℕ) (cells : Cells) (last : Latest) → AreCells g order cells
    → AreCells g order (record cells { last = last })
cells_stopped g order cells last are = record {
  held = record {
    kept = are.held.kept;
    rounds = are.held.rounds;
    noted = are.held.noted;
    few = are.held.few;
  };
  entries = are.entries;
  angle = are.angle;
  words = are.words;
  counts = are.counts;
}

-- no hop of the key is left
pub closed : {L : Type 0} (b : Scan L) (cells : Cells) (made key : ℕ) (kept : Latest) → IsScanned b key
    → cell_at (kept_in b.cells) key ≡ Some kept
    → AreCells (setting_in b) (order_of b) cells
    → Taking (setting_in b) (order_of b) key kept.clock [] (kept_in cells) cells.last
    → made ≡ b.steps + length (hops_at b key)
    → IsAgreed key (kept_in b.cells) (kept_in cells)
    → IsScanned (record b { cells = cells; steps = made }) (key + 1)
closed b cells made key kept is there are taking count agreed =
    let next : suc key ≡ key + 1 = omega arith in
    let g = setting_in b in
    let order = order_of b in
    let turns : made ≡ turns_below g order (kept_in cells) (suc key) =
    omega (
      arith,
      count,
      is.turns,
      turns_agree g order (kept_in b.cells) (kept_in cells) key (λ other below. agreed other (omega (arith, below))),
      ap (turns_at g order key) (agreed key (omega arith) ∙ there),
    ) in
    subst (IsScanned (record b { cells = cells; steps = made })) next
    (record {
      keys = is.keys;
      leaps = is.leaps;
      cells = are;
      scanned = close_key g order key kept.clock (kept_in cells) cells.last taking;
      turns = turns;
    })

-- keys at which nothing is kept need no taking
pub skipped_all : {L : Type 0} (scan : Scan L) (first more : ℕ) → IsScanned scan first
    → ((key : ℕ) → first ≤ key → key < first + more → cell_at (kept_in scan.cells) key ≡ None)
    → IsScanned scan (first + more)
skipped_all scan first zero is none = let same : first ≡ first + 0 = omega arith in subst (IsScanned scan) same is
skipped_all scan first (suc more) is none =
    let before : IsScanned scan (first + more) =
    skipped_all scan first more is (λ key from below. none key from (omega (arith, below))) in
    let same : first + more + 1 ≡ first + suc more = omega arith in
    subst (IsScanned scan) same (skipped scan (first + more) before (none (first + more) (omega arith) (omega arith)))

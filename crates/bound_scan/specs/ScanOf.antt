-- What a scan knows, as it is held.
use Rattle.std.specs.Prelude.{◌≡◌, ℕ, suc, ◌+◌, ◌/◌, ◌%◌, ◌^◌, ◌<◌, ◌≤◌, List, length, slice_get}
use Rattle.std.specs.Prelude.{Option, Some, ◌⊎◌}
use Rattle.machine_steps.specs.Counts.{after_pass, AreWithin}
use Rattle.flow_graph.specs.Accepted.{counts_of}
use Rattle.flow_graph.specs.Hops.{Hop, hops}
use Rattle.flow_graph.specs.Walk.{Setting}
use Rattle.bound_scan.specs.declared.cells.Cells.{Cells}
use Rattle.bound_scan.specs.declared.latest.Latest.{Latest}
use Rattle.bound_scan.specs.declared.leap.Leap.{Leap}
use Rattle.bound_scan.specs.declared.round.Round.{Round}
use Rattle.bound_scan.specs.declared.scan.Scan.{Scan}
use Rattle.bound_scan.specs.declared.instruction_search.InstructionSearch.{InstructionSearch}
use Rattle.bound_scan.specs.Keys.{keys_of, place_at, counts_at, IsKey}
use Rattle.bound_scan.specs.RowOf.{counts_number}
use Rattle.bound_scan.specs.KeysOf.{AreKeys, order_in, setting_with}
use Rattle.bound_scan.specs.LeapOf.{HaveLeaps, IsLeap, leap_hop}
use Rattle.bound_scan.specs.RoundOf.{IsRound}
use Rattle.bound_scan.specs.SearchOf.{IsSearch}
use Rattle.bound_scan.specs.InCells.{AreHeld, HaveEntries, kept_in}
use Rattle.bound_scan.specs.Scanned.{cell_at, later, raised, Scanned, turns_below}
use Rattle.bound_scan.specs.Table.{start_angle}

-- what its walks are in
abbrev pub setting_in : {L : Type 0} → Scan L → Setting
setting_in scan = setting_with scan.keys.now scan.times.now

-- the order of its locations
abbrev pub order_of : {L : Type 0} → Scan L → List ℕ
order_of scan = order_in scan.keys.now

-- how many keys it has
abbrev pub size_in : {L : Type 0} → Scan L → ℕ
size_in scan = keys_of (setting_in scan).notes.marks (order_of scan)

-- the location of a key, and its hops
abbrev pub place_in : {L : Type 0} → Scan L → ℕ → ℕ
place_in scan key = place_at (order_of scan) key

abbrev pub hops_of : {L : Type 0} → Scan L → ℕ → List Hop
hops_of scan key = hops (setting_in scan).loads (setting_in scan).notes (place_in scan key)

-- the round is that of a key's counts
abbrev pub HasRound : {L : Type 0} → Scan L → ℕ → Round → Type 0
HasRound scan key round = IsRound scan.keys.now.accepted.now (key / length (order_of scan)) round

-- The cells are in order, and are those of these locations and counts.
pub record AreCells (g : Setting) (order : List ℕ) (cells : Cells) : Type 0 where
  pub held : AreHeld cells
  pub entries : HaveEntries (place_at order) (counts_number g.notes.marks order) cells
  pub angle : cells.entries.angle ≡ start_angle g.start
  pub words : cells.words ≡ length order
  pub counts : cells.counts ≡ counts_of g.notes.marks

-- The keys below one have been taken.
pub record IsScanned {L : Type 0} (scan : Scan L) (taken : ℕ) : Type 0 where
  pub keys : AreKeys scan.keys.now
  pub leaps : HaveLeaps (setting_in scan) (order_of scan) scan.leaps.now
  pub cells : AreCells (setting_in scan) (order_of scan) scan.cells
  pub scanned : Scanned (setting_in scan) (order_of scan) taken taken (kept_in scan.cells)
      scan.cells.last
  pub turns : scan.steps
      ≡ turns_below (setting_in scan) (order_of scan) (kept_in scan.cells) taken

-- All have.
abbrev pub IsDone : {L : Type 0} → Scan L → Type 0
IsDone scan = IsScanned scan (size_in scan)

-- A hop of the key whose instruction is sought, of this number, is to be taken.
pub record IsReady {L : Type 0} (scan : Scan L) (own_search : InstructionSearch) (number : ℕ)
    (own_leap : Leap) : Type 0 where
  pub keys : AreKeys scan.keys.now
  pub cells : AreCells (setting_in scan) (order_of scan) scan.cells
  pub below : own_search.key < scan.keys.now.size
  pub search : IsSearch (order_of scan) (kept_in scan.cells) own_search
  pub hop : slice_get (hops_of scan own_search.key) number ≡ Some (leap_hop own_leap)
  pub leap : IsLeap (setting_in scan) (order_of scan) (place_in scan own_search.key)
      (own_search.found % 50) own_leap
  pub soon : own_search.found ≤ 2 ^ 62

-- It is the turn of the hop of this number of a key: as many ends were made as the earlier keys at
-- which something is kept have hops, and as the key has before this one.
pub record IsTurn {L : Type 0} (scan : Scan L) (key number : ℕ) : Type 0 where
  pub turn : scan.steps
      ≡ turns_below (setting_in scan) (order_of scan) (kept_in scan.cells) key + number
  pub few : scan.steps < 2 ^ 62

-- the cells up to a key are the same
abbrev pub IsAgreed : ℕ → List (Option Latest) → List (Option Latest) → Type 0
IsAgreed key cells cells' =
    (other : ℕ) → other < suc key → cell_at cells' other ≡ cell_at cells other

-- A hop from a key goes on to a location: what came is kept at the key that it leads to, and of
-- all; or a full mark bars it, and nothing is.
abbrev pub Goes : Setting → List ℕ → ℕ → ℕ → Latest → List (Option Latest) → Latest
    → List (Option Latest) → Latest → Type 0
Goes g order from next new cells last cells' last' =
    let passed = after_pass g.notes.marks (place_at order from) next
    (counts_at g.notes.marks order from) in
    ((¬ AreWithin g.notes.marks passed) × (cells' ≡ cells) × (last' ≡ last))
    ⊎ ((key : ℕ) × IsKey g.notes.marks order key next passed × AreWithin g.notes.marks passed
    × (cells' ≡ raised cells key new) × (last' ≡ later last new))

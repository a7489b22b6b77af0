use Rattle.std.proofs.Common.{◌≡◌, ℕ, List, Option, Some, None, MatchOption}
use Rattle.std.specs.Prelude.{option_map}
use Rattle.bound_scan.specs.declared.latest.Latest.{Latest}
use Rattle.bound_scan.specs.InCells.{kept_in}
use Rattle.bound_scan.specs.InEntries.{kept_of}
use Rattle.bound_scan.specs.Scanned.{cell_at}
use Rattle.bound_scan.specs.SearchOf.{KeepsAt}
use Rattle.bound_scan.proofs.InCellsLaws.{kept_is}
use Rattle.bound_scan.proofs.cells.Cells.clock_at.Goals as goal

-- the clock of what is kept
clocked : (cells : List (Option Latest)) (key : ℕ) (kept : Option Latest) (clock : Option ℕ) → cell_at cells key ≡ kept
    → option_map (λ (one : Latest). one.clock) kept ≡ clock
    → MatchOption clock (cell_at cells key ≡ None) (KeepsAt cells key)
clocked cells key None None there is = there
clocked cells key None (Some clock) there is = absurd (cc)
clocked cells key (Some kept) None there is = absurd (cc)
clocked cells key (Some kept) (Some clock) there is =
    let same : kept.clock ≡ clock = cc in
    (kept, there, same)

pub returns : goal.returns
returns c =
    let cells = c.args.self.now in
    clocked (kept_in cells) c.args.key (kept_of cells.entries c.args.key) c.clock_at.result
    (kept_is cells c.args.key c.requires.there) c.clock_at.ensures

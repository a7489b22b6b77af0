use Rattle.std.proofs.Common.{◌≤◌, take}
use Rattle.ceiling_rows.specs.SiteRows.{EndWithin}
use Rattle.ceiling_rows.proofs.site_row.SiteRow.of.Given as goal

-- the latest end so far
abbrev pub invariant-loop-edge : goal.invariant-loop-edge
invariant-loop-edge l = record {
  own : l.row.stop ≤ l.stop;
  within : EndWithin l.stop (take l.edge-index l.edge-items);
}

use Rattle.std.proofs.Common.{◌≡◌, ℕ, length, Some}
use Rattle.std.specs.Prelude.{slice_get}
use Rattle.flow_graph.specs.Flow.{nodes_of, notes_of}
use Rattle.ceiling_rows.specs.declared.site_row.SiteRow.{SiteRow}
use Rattle.ceiling_rows.specs.declared.sites.Site.{Site}
use Rattle.ceiling_rows.specs.SiteRows.{IsMadeOf}
use Rattle.ceiling_rows.specs.Sites.{sites_in}
use Rattle.ceiling_rows.proofs.site_row.site_rows.Given as goal

-- the rows of the sites so far
abbrev pub invariant-loop-number : goal.invariant-loop-number
invariant-loop-number l = record {
  long : length l.made.items ≡ l.number;
  each : (number : ℕ) (row : SiteRow) (site : Site) → slice_get l.made.items number ≡ Some row
      → slice_get (sites_in l.sites) number ≡ Some site
      → IsMadeOf (notes_of l.flow) (nodes_of l.flow) (sites_in l.sites) l.rows site row;
}

-- What levels and prices pay for, by rows: what the code looks at to see that they are a
-- certificate.
use Rattle.std.specs.Prelude.{◌≡◌, ℕ, ◌+◌, ◌-◌, ◌≤◌, Bool, List, Some, Contains}
use Rattle.std.specs.Prelude.{slice_get, ◌⊎◌}
use Rattle.base_notes.specs.declared.notes.mark.Mark.{Mark}
use Rattle.flow_graph.specs.Hops.{Node}
use Rattle.ceiling_rows.specs.declared.site_row.SiteEdge.{SiteEdge}
use Rattle.ceiling_rows.specs.declared.site_row.SiteRow.{SiteRow}
use Rattle.ceiling_rows.specs.declared.sites.Site.{Site}
use Rattle.ceiling_checked.specs.declared.certificate.Certificate.{Certificate}
use Rattle.ceiling_checked.specs.Affine.{Affine}
use Rattle.ceiling_checked.specs.Charge.{charge_from, paid_by}
use Rattle.ceiling_checked.specs.AtSite.{at_number, is_in, level_in, region_in, regions_at}

-- the regions at a number, by the marks' indices
abbrev pub regions_in : Certificate → ℕ → ℕ → Bool
regions_in by number index = is_in (regions_at by.regions.items number) index

-- what the levels and the regions stand for
abbrev pub form_of : List Node → List Site → Certificate → Affine
form_of nodes sites by = record {
  level = level_in nodes sites by.levels.items;
  region = region_in nodes sites by.regions.items;
  debt = by.debt;
}

-- no walk takes the edge: its mark may never be passed
abbrev pub IsShut : List Mark → SiteEdge → Type 0
IsShut marks edge = (index : ℕ) × (mark : Mark) × (edge.mark ≡ Some index)
    × (slice_get marks index ≡ Some mark) × (mark.most ≡ 0)

-- what there is to pay for an edge from a number with this level
abbrev pub pay_for : Certificate → ℕ → ℕ → SiteEdge → ℕ
pay_for by number level edge = level + paid_by (regions_in by number) by.prices.items edge.mark

-- what the marks charge for it
abbrev pub charge_for : List Mark → Certificate → ℕ → SiteEdge → ℕ
charge_for marks by number edge =
    charge_from marks (regions_in by number) (regions_in by edge.onto) edge.mark 0 marks
    by.prices.items

-- From a number with this level there is enough for an edge: for its end; and for its time, the
-- level where it leads and what the marks charge.
pub record IsEdgePaid (marks : List Mark) (by : Certificate) (number level : ℕ)
    (edge : SiteEdge) : Type 0 where
  pub later : ℕ
  pub there : at_number by.levels.items edge.onto ≡ Some later
  pub ends : by.debt + edge.stop ≤ pay_for by number level edge
  pub goes_on : later + charge_for marks by number edge + edge.time ≤ pay_for by number level edge

-- There is enough for all hops of the row.
pub record IsPaid (marks : List Mark) (by : Certificate) (number level : ℕ)
    (row : SiteRow) : Type 0 where
  pub ends : row.stop ≤ level - by.debt
  pub edges : (edge : SiteEdge) → Contains row.edges.items edge
      → IsShut marks edge ⊎ IsEdgePaid marks by number level edge

-- The level at a number, if there is one, pays for all hops of the row there.
abbrev pub IsSitePaid : List Mark → Certificate → List SiteRow → ℕ → Type 0
IsSitePaid marks by rows number = (level : ℕ) (row : SiteRow)
    → at_number by.levels.items number ≡ Some level → slice_get rows number ≡ Some row
    → IsPaid marks by number level row

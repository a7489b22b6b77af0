-- Levels and regions, as they stand at the numbers of sites.
use Rattle.std.specs.Prelude.{ℕ, suc, ◌/◌, ◌%◌, ◌==◌, ◌&&◌, Bool, false, ◌^◌, slice_get}
use Rattle.std.specs.Prelude.{if◌then◌else◌, option_map, unwrap_or, List, [], ◌∷◌, Option, Some}
use Rattle.std.specs.Prelude.{None}
use Rattle.std.specs.Option.{option_eq}
use Rattle.flow_graph.specs.Executed.{same_node}
use Rattle.flow_graph.specs.Hops.{Node}
use Rattle.ceiling_rows.specs.declared.sites.Site.{Site}

-- what stands at a number of a list, if anything does
abbrev pub at_number : {X : Type 0} → List (Option X) → ℕ → Option X
at_number values number = unwrap_or (slice_get values number) None

-- whether the site is that of a node at an angle
abbrev pub is_site : List Node → Node → ℕ → Site → Bool
is_site nodes node angle site =
    option_eq same_node (slice_get nodes site.node) (Some node) && (site.angle == angle)

-- the number of the first site that a test tells, if there is one
abbrev pub first_site : (Site → Bool) → List Site → Option ℕ
first_site test [] = None
first_site test (site ∷ sites) =
    if test site then Some 0 else option_map suc (first_site test sites)

-- the number of the site of a node at an angle, if there is one
abbrev pub number_of : List Node → List Site → Node → ℕ → Option ℕ
number_of nodes sites node angle = first_site (is_site nodes node angle) sites

-- the level of a node and an angle, of those that stand at the numbers of sites
abbrev pub level_in : List Node → List Site → List (Option ℕ) → Node → ℕ → Option ℕ
level_in nodes sites levels node angle =
    elim (number_of nodes sites node angle) [
      | None ↦ None
      | Some number ↦ at_number levels number
    ]

-- the bit of a mark's region, by its index, in the regions of a site
abbrev pub is_in : ℕ → ℕ → Bool
is_in regions index = (regions / 2 ^ index) % 2 == 1

-- the regions that a site is in, of those that stand at the numbers
abbrev pub regions_at : List ℕ → ℕ → ℕ
regions_at regions number = unwrap_or (slice_get regions number) 0

-- whether a node is in a mark's region where it is found at an angle
abbrev pub region_in : List Node → List Site → List ℕ → ℕ → Node → ℕ → Bool
region_in nodes sites regions index node angle =
    elim (number_of nodes sites node angle) [
      | None ↦ false
      | Some number ↦ is_in (regions_at regions number) index
    ]

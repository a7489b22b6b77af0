-- Levels and regions of nodes at angles, and those at the numbers of their sites.
use Rattle.std.proofs.Common.{◌≡◌, ℕ, zero, suc, Bool, true, false, eqb, List, [], ◌∷◌, Option, Some, None}
use Rattle.std.proofs.Common.{refl, ap, sym, ◌∙◌, subst}
use Rattle.std.specs.Prelude.{slice_get, Decides}
use Rattle.std.specs.Option.{option_eq}
use Rattle.std.proofs.lemmas.Bool.Decides.{Decides-eqb, Decides-and}
use Rattle.std.proofs.lemmas.Option.{none-some, same_Some}
use Rattle.base_notes.specs.declared.notes.mark.Mark.{Mark}
use Rattle.base_graphs.specs.Graph.{AreDifferent}
use Rattle.base_graphs.proofs.Lists.{one_place}
use Rattle.flow_graph.specs.Executed.{same_node}
use Rattle.flow_graph.specs.Hops.{Node}
use Rattle.flow_graph.proofs.Links.{node_law}
use Rattle.ceiling_rows.specs.declared.sites.Site.{Site}
use Rattle.ceiling_rows.specs.Sites.{AreSites, IsSite}
use Rattle.ceiling_rows.proofs.SiteKeys.{site_same}
use Rattle.ceiling_checked.specs.Affine.{cost_left}
use Rattle.ceiling_checked.specs.AtSite.{at_number, first_site, is_in, is_site, level_in, number_of, region_in, regions_at}

option_law : (a b : Option Node) → Decides (option_eq same_node a b) (a ≡ b)
option_law None None = (λ e. refl, λ e. refl)
option_law None (Some b) = (λ e. cc, λ e. cc)
option_law (Some a) None = (λ e. cc, λ e. cc)
option_law (Some a) (Some b) = (λ e. ap Some ((node_law a b).0 e), λ e. (node_law a b).1 (same_Some a b e))

-- whether a site is that of a node at an angle
site_is : (nodes : List Node) (node : Node) (angle : ℕ) (site : Site)
    → Decides (is_site nodes node angle site) ((slice_get nodes site.node ≡ Some node) × (site.angle ≡ angle))
site_is nodes node angle site =
    Decides-and (option_eq same_node (slice_get nodes site.node) (Some node)) (eqb site.angle angle)
    (option_law (slice_get nodes site.node) (Some node)) (Decides-eqb site.angle angle)

-- the number that is found is that of a site that the test tells
found_site : (test : Site → Bool) (sites : List Site) (number : ℕ) → first_site test sites ≡ Some number
    → (site : Site) × (slice_get sites number ≡ Some site) × (test site ≡ true)
found_site test [] number e = cc
found_site test (one ∷ sites) number e = go (test one) refl (first_site test sites) refl (found_site test sites)
  where
    go : (here : Bool) → test one ≡ here → (behind : Option ℕ) → first_site test sites ≡ behind
        → ((k : ℕ) → first_site test sites ≡ Some k → (site : Site) × (slice_get sites k ≡ Some site) × (test site ≡ true))
        → (site : Site) × (slice_get (one ∷ sites) number ≡ Some site) × (test site ≡ true)
    go true is behind later others =
        let first : 0 ≡ number = same_Some 0 number (sym (rw is refl) ∙ e) in
        subst (λ (n : ℕ). (site : Site) × (slice_get (one ∷ sites) n ≡ Some site) × (test site ≡ true)) first (one, refl, is)
    go false is None later others = absurd (none-some number (sym (rw (is, later) refl) ∙ e))
    go false is (Some k) later others =
        let next : suc k ≡ number = same_Some (suc k) number (sym (rw (is, later) refl) ∙ e) in
        let found = others k later in
        subst (λ (n : ℕ). (site : Site) × (slice_get (one ∷ sites) n ≡ Some site) × (test site ≡ true)) next found

pub own_site : (nodes : List Node) (sites : List Site) (node : Node) (angle number : ℕ)
    → number_of nodes sites node angle ≡ Some number → IsSite nodes sites number node angle
own_site nodes sites node angle number e =
    let found = found_site (is_site nodes node angle) sites number e in
    let is = (site_is nodes node angle found.0).0 found.2 in
    (found.0, found.1, is.0, is.1)

-- where one is there, some number is found
found_some : (test : Site → Bool) (sites : List Site) (k : ℕ) (site : Site) → slice_get sites k ≡ Some site → test site ≡ true
    → (j : ℕ) × (first_site test sites ≡ Some j)
found_some test [] k site at is = cc
found_some test (one ∷ sites) zero site at is =
    let same : one ≡ site = same_Some one site at in
    let here : test one ≡ true = ap test same ∙ is in
    (0, rw here refl)
found_some test (one ∷ sites) (suc k) site at is = go (test one) refl (found_some test sites k site at is)
  where
    go : (b : Bool) → test one ≡ b → (j : ℕ) × (first_site test sites ≡ Some j)
        → (j : ℕ) × (first_site test (one ∷ sites) ≡ Some j)
    go true e found = (0, rw e refl)
    go false e found = (suc found.0, rw (e, found.1) refl)

-- and it is the site's own
pub number_is : (nodes : List Node) (sites : List Site) (number : ℕ) (node : Node) (angle : ℕ) → AreDifferent nodes
    → AreSites nodes sites → IsSite nodes sites number node angle → number_of nodes sites node angle ≡ Some number
number_is nodes sites number node angle different are is =
    let found = found_some (is_site nodes node angle) sites number is.0 is.1 ((site_is nodes node angle is.0).1 (is.2, is.3)) in
    let other = own_site nodes sites node angle found.0 found.1 in
    let same : other.0 ≡ is.0 =
    site_same other.0 is.0 (one_place nodes other.0.node is.0.node node different other.2 is.2) (other.3 ∙ sym is.3) in
    found.1 ∙ ap Some (one_place sites found.0 number is.0 are.different (other.1 ∙ ap Some same) is.1)

-- where a node has a level at an angle, it stands at the number of its site
pub own_level : (nodes : List Node) (sites : List Site) (levels : List (Option ℕ)) (node : Node) (angle level : ℕ)
    → level_in nodes sites levels node angle ≡ Some level
    → (number : ℕ) × (number_of nodes sites node angle ≡ Some number) × (at_number levels number ≡ Some level)
own_level nodes sites levels node angle level at = go (number_of nodes sites node angle) refl at
  where
    go : (found : Option ℕ) → number_of nodes sites node angle ≡ found
        → elim found [ None ↦ None | Some number ↦ at_number levels number ] ≡ Some level
        → (number : ℕ) × (number_of nodes sites node angle ≡ Some number) × (at_number levels number ≡ Some level)
    go None is none = cc
    go (Some number) is there = (number, is, there)

-- and the other way about
pub level_there : (nodes : List Node) (sites : List Site) (levels : List (Option ℕ)) (node : Node) (angle number level : ℕ)
    → number_of nodes sites node angle ≡ Some number → at_number levels number ≡ Some level
    → level_in nodes sites levels node angle ≡ Some level
level_there nodes sites levels node angle number level is at =
    ap (λ (found : Option ℕ). elim found [ None ↦ None | Some number ↦ at_number levels number ]) is ∙ at

-- what the passes cost that are left, by the regions at a number
pub cost_there : (nodes : List Node) (sites : List Site) (regions : List ℕ) (marks : List Mark) (prices counts : List ℕ)
    (node : Node) (angle number : ℕ) → number_of nodes sites node angle ≡ Some number
    → cost_left (λ index. region_in nodes sites regions index node angle) 0 marks prices counts
    ≡ cost_left (λ index. is_in (regions_at regions number) index) 0 marks prices counts
cost_there nodes sites regions marks prices counts node angle number is =
    ap (λ (found : Option ℕ). cost_left (λ index. elim found [
      | None ↦ false
      | Some number ↦ is_in (regions_at regions number) index
    ]) 0 marks prices counts) is

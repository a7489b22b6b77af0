-- Levels at numbers that pay for the hops of their rows are a certificate, with the prices of the marks and their regions.
use Rattle.std.proofs.Common.{◌≡◌, ◌⊎◌, ℕ, zero, suc, ◌+◌, ◌-◌, ◌%◌, ◌<◌, ◌≤◌, Bool, true, List, [], ◌∷◌, length, Option, Some, None}
use Rattle.std.proofs.Common.{refl, ap, sym, ◌∙◌, subst, inl, inr, arith, eq-eqb}
use Rattle.std.specs.Prelude.{◌==◌, if◌then◌else◌, slice_get, Contains}
use Rattle.std.proofs.lemmas.Option.{slice_get_within}
use Rattle.base_notes.specs.declared.notes.mark.Mark.{Mark}
use Rattle.base_notes.specs.Marks.{mark_on}
use Rattle.machine_steps.specs.Counts.{after_pass, is_inside, no_counts, passed_from, AreWithin}
use Rattle.machine_steps.specs.Ways.{Way, early, to, late}
use Rattle.machine_steps.proofs.Chained.{found_keeps_time}
use Rattle.machine_steps.specs.Calls.{MayGo}
use Rattle.base_graphs.specs.Graph.{AreDifferent}
use Rattle.flow_graph.specs.Hops.{edge_between, first_node, hops, Hop, Node}
use Rattle.flow_graph.specs.Longest.{longest}
use Rattle.flow_graph.specs.Walk.{Setting}
use Rattle.flow_acceptance.proofs.FreeRows.{some_at}
use Rattle.ceiling_rows.specs.declared.site_row.SiteEdge.{SiteEdge}
use Rattle.ceiling_rows.specs.declared.site_row.SiteRow.{SiteRow}
use Rattle.ceiling_rows.specs.declared.sites.Site.{Site}
use Rattle.ceiling_rows.specs.Steps.{arrival}
use Rattle.ceiling_rows.specs.Marked.{mark_by}
use Rattle.ceiling_rows.specs.SiteRows.{node_behind, AreSiteRows, IsSiteEdge, Leaves}
use Rattle.ceiling_rows.specs.Sites.{AreSites, IsSite}
use Rattle.ceiling_checked.specs.declared.certificate.Certificate.{Certificate}
use Rattle.ceiling_checked.specs.Affine.{cost_left, owed_by}
use Rattle.ceiling_checked.specs.Certificate.{IsAllowed, IsCertificate, Pays}
use Rattle.ceiling_checked.specs.Charge.{charge_from, paid_by}
use Rattle.ceiling_checked.specs.Paying.{charge_for, form_of, regions_in, IsEdgePaid, IsPaid, IsShut, IsSitePaid}
use Rattle.ceiling_checked.specs.AtSite.{at_number, number_of}
use Rattle.ceiling_checked.proofs.Left.{marked_step, paid_left, unmarked_step}
use Rattle.ceiling_checked.proofs.Numbered.{cost_there, level_there, number_is, own_level, own_site}
use Rattle.ceiling_checked.proofs.Owing.{owed_at, owed_there}

-- a mark that is passed within what the marks allow may be passed
may_be_passed : (all : List Mark) (m k index : ℕ) (marks : List Mark) (counts : List ℕ) (mark : Mark) → index + k ≡ m
    → AreWithin marks (passed_from all m index counts) → slice_get marks k ≡ Some mark → 1 ≤ mark.most
may_be_passed all m k index [] counts mark at within there = absurd (cc)
may_be_passed all m k index (first ∷ marks) [] mark at within there = absurd within
may_be_passed all m zero index (first ∷ marks) (count ∷ counts) mark at within there =
    let here : (index == m) ≡ true = eq-eqb index m (omega (arith, at)) in
    let same : first ≡ mark = cc in
    let one : count + 1 ≤ first.most =
    subst (λ (b : Bool). (if b then count + 1 else (if is_inside all index m then 0 else count)) ≤ first.most) here
    within.0 in
    omega (arith, one, ap (λ (one : Mark). one.most) same)
may_be_passed all m (suc k) index (first ∷ marks) (count ∷ counts) mark at within there =
    may_be_passed all m k (index + 1) marks counts mark (omega (arith, at)) within.1 there

module _ (g : Setting) (nodes : List Node) (sites : List Site) (rows : List SiteRow) (by : Certificate)
    (different : AreDifferent nodes) (all_sites : AreSites nodes sites) (are : AreSiteRows g nodes sites rows)
    (paid : (number : ℕ) → IsSitePaid g.notes.marks by rows number)
    (each : length by.prices.items ≡ length g.notes.marks) where
  abbrev pub marks : List Mark
  marks = g.notes.marks

  abbrev pub prices : List ℕ
  prices = by.prices.items

  -- what is owed at a node and an angle
  abbrev pub Owed : Node → ℕ → List ℕ → Option ℕ
  Owed = owed_by marks prices (form_of nodes sites by)

  -- what the passes cost that are left, at a number
  abbrev pub cost_at : ℕ → List ℕ → ℕ
  cost_at number counts = cost_left (regions_in by number) 0 marks prices counts

  -- An edge that a hop takes within what the marks allow is paid for.
  edge_paid : (number level next : ℕ) (node : Node) (angle : ℕ) (counts : List ℕ) (edge : SiteEdge) (hop : Hop)
      → AreWithin marks counts
      → IsSiteEdge g nodes sites node angle hop next edge → AreWithin marks (after_pass marks node.place next counts)
      → IsShut marks edge ⊎ IsEdgePaid marks by number level edge → IsEdgePaid marks by number level edge
  edge_paid number level next node angle counts edge hop before is within (inr paid_for) = paid_for
  edge_paid number level next node angle counts edge hop before is within (inl (k, mark, on, there, none)) =
      let passed : AreWithin marks (passed_from marks k 0 counts) =
      subst (λ (found : Option ℕ). AreWithin marks (elim found [
        | None ↦ counts
        | Some m ↦ passed_from marks m 0 counts
      ])) (sym is.mark ∙ on) within in
      absurd (omega (arith, none, may_be_passed marks k k 0 marks counts mark (omega arith) passed there))

  -- What is left to pay behind an edge is no more than before, with what is paid, less what is charged; and what is paid
  -- is no more than what is left.
  edge_left : (number place next : ℕ) (counts : List ℕ) (edge : SiteEdge) (mark : Option ℕ)
      → mark_on marks place next ≡ mark → edge.mark ≡ mark_on marks place next
      → AreWithin marks (after_pass marks place next counts)
      → (cost_at edge.onto (after_pass marks place next counts)
      + paid_by (regions_in by number) prices edge.mark
      ≤ cost_at number counts + charge_for marks by number edge)
      × (paid_by (regions_in by number) prices edge.mark ≤ cost_at number counts)
  edge_left number place next counts edge mark on is within = rw is (go mark on within)
    where
      here : ℕ → Bool
      here = regions_in by number

      there : ℕ → Bool
      there = regions_in by edge.onto

      after : Option ℕ → List ℕ
      after found = elim found [
        | None ↦ counts
        | Some m ↦ passed_from marks m 0 counts
      ]

      Right : Option ℕ → Type 0
      Right found = (cost_left there 0 marks prices (after found) + paid_by here prices found
          ≤ cost_left here 0 marks prices counts + charge_from marks here there found 0 marks prices)
          × (paid_by here prices found ≤ cost_left here 0 marks prices counts)

      go : (found : Option ℕ) → mark_on marks place next ≡ found
          → AreWithin marks (after (mark_on marks place next)) → Right (mark_on marks place next)
      go None none few = subst Right (sym none)
          (omega (arith, unmarked_step marks here there 0 marks prices counts), omega arith)
      go (Some k) some few =
          let passed : AreWithin marks (passed_from marks k 0 counts) = subst (λ (f : Option ℕ). AreWithin marks (after f)) some few in
          subst Right (sym some)
          (marked_step marks here there k prices counts each passed, paid_left marks here k prices counts each passed)

  pays_own : (number level : ℕ) (node : Node) (angle : ℕ) (counts : List ℕ) → AreWithin marks counts
      → IsSite nodes sites number node angle → at_number by.levels.items number ≡ Some level
      → (hop : Hop) → Contains (hops g.loads g.notes node.place) hop → IsAllowed g.notes node counts hop.way
      → Pays g Owed node angle counts (level + cost_at number counts - by.debt) hop
  pays_own number level node angle counts few site at hop there may = record {
    ends = ends;
    goes_on = goes_on;
  }
    where
      place : ℕ
      place = node.place

      ended : ℕ
      ended = longest g.times place hop.ins hop.way angle

      row : (row : SiteRow) × (slice_get rows number ≡ Some row)
      row = some_at rows number (omega (arith, slice_get_within sites number site.0 site.1, are.long))

      is_paid : IsPaid marks by number level row.0
      is_paid = paid number level row.0 at row.1

      takes : Leaves g nodes sites node angle row.0 hop
      takes = are.each number row.0 node angle row.1 site hop there

      allowed : (next : ℕ) → hop.way ≡ to next → MayGo g.notes.calls node.ways (edge_between place next)
          × AreWithin marks (after_pass marks place next counts)
      allowed next on = subst (IsAllowed g.notes node counts) on may

      edge_for : (next : ℕ) → hop.way ≡ to next → (edge : SiteEdge) × Contains row.0.edges.items edge
          × IsSiteEdge g nodes sites node angle hop next edge
      edge_for next on = takes.goes_on next on (allowed next on).0

      paid_for : (next : ℕ) (on : hop.way ≡ to next) → IsEdgePaid marks by number level (edge_for next on).0
      paid_for next on =
          let edge = edge_for next on in
          edge_paid number level next node angle counts edge.0 hop few edge.2 (allowed next on).1
          (is_paid.edges edge.0 edge.1)

      left_for : (next : ℕ) (on : hop.way ≡ to next)
          → (cost_at (edge_for next on).0.onto (after_pass marks place next counts)
          + paid_by (regions_in by number) prices (edge_for next on).0.mark
          ≤ cost_at number counts + charge_for marks by number (edge_for next on).0)
          × (paid_by (regions_in by number) prices (edge_for next on).0.mark ≤ cost_at number counts)
      left_for next on =
          let edge = edge_for next on in
          edge_left number place next counts edge.0 (mark_on marks place next) refl edge.2.mark (allowed next on).1

      ends : ended + 49 ≤ angle + (level + cost_at number counts - by.debt)
      ends = go (mark_by marks place hop.way) refl hop.way refl
        where
          stops : mark_by marks place hop.way ≡ None → ended + 49 ≤ angle + (level + cost_at number counts - by.debt)
          stops none = omega (arith, takes.ends (λ next on. (allowed next on).0) none, is_paid.ends)

          go : (mark : Option ℕ) → mark_by marks place hop.way ≡ mark → (way : Way) → hop.way ≡ way
              → ended + 49 ≤ angle + (level + cost_at number counts - by.debt)
          go None none way is = stops none
          go (Some k) on early is = stops (ap (mark_by marks place) is)
          go (Some k) on late is = stops (ap (mark_by marks place) is)
          go (Some k) on (to next) is =
              omega (arith, (edge_for next is).2.stop, (paid_for next is).ends, (left_for next is).1)

      goes_on : (next : ℕ) → hop.way ≡ to next → (later : ℕ)
          × (Owed (node_behind g.notes node next) (arrival g place angle hop next % 50) (after_pass marks place next counts)
          ≡ Some later)
          × (arrival g place angle hop next + later ≤ angle + (level + cost_at number counts - by.debt))
      goes_on next on =
          let edge = edge_for next on in
          let pay = paid_for next on in
          let when : ℕ = arrival g place angle hop next in
          let after : List ℕ = after_pass marks place next counts in
          let behind : Node = node_behind g.notes node next in
          let number_there : number_of nodes sites behind (when % 50) ≡ Some edge.0.onto =
          number_is nodes sites edge.0.onto behind (when % 50) different all_sites edge.2.onto in
          let own = level_there nodes sites by.levels.items behind (when % 50) edge.0.onto pay.later number_there pay.there in
          let same : cost_left (λ k. (form_of nodes sites by).region k behind (when % 50)) 0 marks prices after
          ≡ cost_at edge.0.onto after =
          cost_there nodes sites by.regions.items marks prices after behind (when % 50) edge.0.onto number_there in
          let near : when ≤ ended + 49 = (found_keeps_time next).within_span ended in (
            pay.later + cost_at edge.0.onto after - by.debt,
            owed_there marks prices (form_of nodes sites by) behind (when % 50) pay.later after own
                ∙ ap (λ (n : ℕ). Some (pay.later + n - by.debt)) same,
            omega (arith, edge.2.time, pay.goes_on, (left_for next on).0, near, ends),
          )

  pays_each : (node : Node) (angle due : ℕ) (counts : List ℕ) → angle < 50 → AreWithin marks counts
      → Owed node angle counts ≡ Some due → (hop : Hop) → Contains (hops g.loads g.notes node.place) hop
      → IsAllowed g.notes node counts hop.way → Pays g Owed node angle counts due hop
  pays_each node angle due counts on_drum few at hop there may =
      let so = owed_at marks prices (form_of nodes sites by) node angle due counts at in
      let here = own_level nodes sites by.levels.items node angle so.0 so.1 in
      let same : cost_left (λ k. (form_of nodes sites by).region k node angle) 0 marks prices counts ≡ cost_at here.0 counts =
      cost_there nodes sites by.regions.items marks prices counts node angle here.0 here.1 in
      subst (λ (n : ℕ). Pays g Owed node angle counts n hop)
      (sym (so.2 ∙ ap (λ (n : ℕ). so.0 + n - by.debt) same))
      (pays_own here.0 so.0 node angle counts few (own_site nodes sites node angle here.0 here.1) here.2 hop there may)

  -- They are a certificate of what is owed at the start.
  pub certified : (total : ℕ) → Owed (first_node g.notes g.start) (g.start % 50) (no_counts marks) ≡ Some total
      → IsCertificate g Owed total
  certified total at = record {
    starts = at;
    pays = pays_each;
  }

-- The rows of sites, by those of their locations.
use Rattle.std.proofs.Common.{◌≡◌, ℕ, ◌%◌, ◌+◌, ◌<◌, ◌≤◌, List, [], Option, Some, None, refl, ap, sym, ◌∙◌, subst, arith}
use Rattle.std.specs.Prelude.{slice_get, Contains}
use Rattle.std.proofs.lemmas.Option.{same_Some}
use Rattle.base_words.specs.Location.{IsLocation}
use Rattle.machine_rotation.specs.Waits.{available_recurs}
use Rattle.machine_rotation.proofs.Waited.{first_again}
use Rattle.machine_steps.specs.Timing.{found}
use Rattle.machine_steps.specs.Calls.{MayGo}
use Rattle.machine_steps.specs.Ways.{Way, early, to, late}
use Rattle.base_graphs.proofs.Lists.{contains_at, contains_from_get, contains_here}
use Rattle.flow_graph.specs.Executed.{onward, AreAllNodes}
use Rattle.flow_graph.specs.Flow.{AreFound}
use Rattle.flow_graph.specs.Hops.{edge_between, hops, IsLink, Node}
use Rattle.flow_graph.specs.Longest.{longest}
use Rattle.flow_graph.specs.Walk.{Setting}
use Rattle.flow_graph.proofs.FromAngles.{found_angle}
use Rattle.flow_graph.proofs.InNodesLaws.{one_onward}
use Rattle.flow_graph.proofs.Orders.{has_reached, reached_next, reached_only}
use Rattle.ceiling_rows.specs.declared.row.Row.{Row}
use Rattle.ceiling_rows.specs.declared.site_row.SiteEdge.{SiteEdge}
use Rattle.ceiling_rows.specs.declared.site_row.SiteRow.{SiteRow}
use Rattle.ceiling_rows.specs.declared.sites.Site.{Site}
use Rattle.ceiling_rows.specs.Marked.{mark_by}
use Rattle.ceiling_rows.specs.Rows.{AreRows, IsRow, Takes}
use Rattle.ceiling_rows.specs.SiteRows.{node_behind, EndWithin, HasAllOnward, IsMadeOf}
use Rattle.ceiling_rows.specs.SiteRows.{IsSiteEdge, IsSiteRow, MayLeave}
use Rattle.ceiling_rows.specs.Sites.{AreSites, IsSite}
use Rattle.ceiling_rows.specs.Slot.{place_of, slot_of}
use Rattle.ceiling_rows.specs.Steps.{arrival}
use Rattle.ceiling_rows.proofs.Angles.{found_again, own_angle, slot_angle, slot_below}
use Rattle.ceiling_rows.proofs.RowLaws.{slot_place}

module _ (g : Setting) (nodes : List Node) (sites : List Site) (are : AreAllNodes g.loads g.notes g.start nodes)
    (all_sites : AreSites nodes sites) where
  -- What is made of a row that has all hops of a location has all of the node's.
  pub has_all : (node : Node) (angle : ℕ) (row : Row) (made : SiteRow) → Contains nodes node
      → IsRow g node.place angle row → row.stop ≤ made.stop → EndWithin made.stop made.edges.items
      → HasAllOnward g.notes nodes sites node row.edges.items made.edges.items
      → IsSiteRow g nodes sites node angle made
  has_all node angle row made member is stop within all_onward hop has = record {
    ends = λ may unmarked. ends hop.way refl may unmarked;
    goes_on = edge_for;
  }
    where
      takes : Takes g node.place angle row hop
      takes = is hop has

      edge_for : (next : ℕ) → hop.way ≡ to next → MayGo g.notes.calls node.ways (edge_between node.place next)
          → (edge : SiteEdge) × Contains made.edges.items edge × IsSiteEdge g nodes sites node angle hop next edge
      edge_for next on may =
          let so = takes.goes_on next on in
          let behind : Node = node_behind g.notes node next in
          let when : ℕ = arrival g node.place angle hop next in
          let link : IsLink g.loads g.notes node behind = record {
            edge = (
              hop.ins,
              subst (λ (w : Way). Contains (hops g.loads g.notes node.place) (record { ins = hop.ins; way = w })) on has,
            );
            may = may;
            behind = refl;
          } in
          let index = contains_at nodes behind
          (has_reached g.loads g.notes g.start nodes are behind
          (reached_next g.loads g.notes g.start node behind (reached_only g.loads g.notes g.start nodes are node member) link)) in
          let drum : next < 2000 → when % 50 ≡ next % 50 = λ below. found_angle next _ below in
          let place : place_of so.1.0.onto.number ≡ next =
          ap place_of so.1.2.onto ∙ slot_place next (when % 50) so.0 (omega arith) in
          let turned : so.1.0.onto.number % 50 ≡ when % 50 =
          ap (λ (n : ℕ). n % 50) so.1.2.onto ∙ slot_angle next (when % 50) so.0 (omega arith) drum in
          let there : Contains sites (record { node = index.0; angle = so.1.0.onto.number % 50 }) =
          all_sites.all (record { node = index.0; angle = so.1.0.onto.number % 50 }) behind (
            index.1,
            omega arith,
            ap (found next) turned ∙ found_again next when (first_again (available_recurs next) _) ∙ sym turned,
          ) in
          let leads : Contains (onward g.notes node (place_of so.1.0.onto.number)) behind =
          subst (λ (p : ℕ). Contains (onward g.notes node p) behind) (sym place)
          (subst (λ (ns : List Node). Contains ns behind) (sym (one_onward g.notes node next may)) (contains_here behind [])) in
          let one = all_onward so.1.0 so.1.1 behind index.0 leads index.1 there in (
            one.0,
            one.1,
            record {
              onto = subst (IsSite nodes sites one.0.onto behind) turned one.2;
              mark = one.3 ∙ so.1.2.mark;
              time = omega (arith, so.1.2.time, one.4);
              stop = omega (arith, so.1.2.stop, one.5);
            },
          )

      ended : ℕ
      ended = longest g.times node.place hop.ins hop.way angle

      ends : (way : Way) → hop.way ≡ way → MayLeave g.notes node hop.way
          → mark_by g.notes.marks node.place hop.way ≡ None → ended + 49 ≤ angle + made.stop
      ends early by may unmarked = omega (arith, takes.ends (λ next on. cc), stop)
      ends late by may unmarked = omega (arith, takes.ends (λ next on. cc), stop)
      ends (to next) by may unmarked =
          let edge = edge_for next by (may next by) in
          let bare : edge.0.mark ≡ None =
          edge.2.mark ∙ ap (mark_by g.notes.marks node.place) (sym by) ∙ unmarked in
          omega (arith, edge.2.stop, within edge.0 edge.1 bare)

  -- So the row of a site is made of that of its location at its angle.
  pub made_row : (executed : List ℕ) (rows : List (Option Row)) (number : ℕ) (site : Site) (node : Node) (angle : ℕ)
      (made : SiteRow) → AreFound g.loads g.notes g.start executed → ((place : ℕ) → Contains executed place → IsLocation place)
      → AreRows g executed rows → IsSite nodes sites number node angle → slice_get sites number ≡ Some site
      → IsMadeOf g.notes nodes sites rows site made → IsSiteRow g nodes sites node angle made
  made_row executed rows number site node angle made found_all locations are_rows is at made_of =
      let own : is.0 ≡ site = same_Some is.0 site (sym is.1 ∙ at) in
      let angle_is : site.angle ≡ angle = ap (λ (s : Site). s.angle) (sym own) ∙ is.3 in
      let here : slice_get nodes site.node ≡ Some node = ap (λ (s : Site). slice_get nodes s.node) (sym own) ∙ is.2 in
      let of = all_sites.only site (contains_from_get sites number site at) in
      let node_is : of.0 ≡ node = same_Some of.0 node (sym of.1.0 ∙ here) in
      let on_drum : angle < 50 = omega (arith, of.1.1, angle_is) in
      let stands : found node.place angle ≡ angle =
      ap (λ (n : Node). found n.place angle) (sym node_is) ∙ ap (found of.0.place) (sym angle_is) ∙ of.1.2 ∙ angle_is in
      let member : Contains nodes node = contains_from_get nodes site.node node here in
      let executed_is : Contains executed node.place =
      found_all.all node.place (node.ways, reached_only g.loads g.notes g.start nodes are node member) in
      let location : IsLocation node.place = locations node.place executed_is in
      let slot : ℕ = slot_of node.place angle in
      let place : place_of slot ≡ node.place = slot_place node.place angle location on_drum in
      let turned : slot % 50 ≡ angle =
      slot_angle node.place angle location on_drum (own_angle node.place angle on_drum stands) in
      let row = are_rows.all slot (slot_below node.place angle location on_drum) (
        subst (Contains executed) (sym place) executed_is,
        ap (λ (n : ℕ). found n (slot % 50)) place ∙ ap (found node.place) turned ∙ stands ∙ sym turned,
      ) in
      let same : site.angle % 50 ≡ angle = omega (arith, angle_is, on_drum) in
      let so = made_of node row.0 here (ap (λ (a : ℕ). slice_get rows (slot_of node.place a)) same ∙ row.1) in
      has_all node angle row.0 made member
      (subst (λ (a : ℕ). IsRow g node.place a row.0) turned
      (subst (λ (p : ℕ). IsRow g p (slot % 50) row.0) place (are_rows.each slot row.0 row.1).is)) so.0 so.1 so.2

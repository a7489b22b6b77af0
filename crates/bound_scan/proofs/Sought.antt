-- What is known of the end of a hop that is to be taken.
use Rattle.std.proofs.Common.{◌≡◌, ℕ, ◌%◌, ◌<◌, ◌≤◌, Some, refl, ap, sym, subst, arith}
use Rattle.std.specs.Prelude.{slice_get}
use Rattle.std.proofs.lemmas.Option.{slice_get_within}
use Rattle.machine_steps.specs.WaysLeft.{seen_way}
use Rattle.flow_graph.specs.Hops.{hops}
use Rattle.flow_graph.specs.Seen.{seen_hop}
use Rattle.flow_graph.specs.Walk.{Setting}
use Rattle.bound_scan.specs.declared.leap.Leap.{Leap}
use Rattle.bound_scan.specs.declared.scan.Scan.{Scan}
use Rattle.bound_scan.specs.declared.instruction_search.InstructionSearch.{InstructionSearch}
use Rattle.bound_scan.specs.Keys.{place_at}
use Rattle.bound_scan.specs.LeapOf.{TakesLongest, leap_hop}
use Rattle.flow_graph.specs.Longest.{longest}
use Rattle.flow_graph.specs.Profile.{MayEnd}
use Rattle.machine_rotation.specs.Available.{is_available}
use Rattle.machine_rotation.specs.Moment.{first}
use Rattle.bound_scan.specs.ScanOf.{setting_in, order_of, IsReady}
use Rattle.bound_scan.specs.SearchOf.{end_sought, hop_sought}
use Rattle.bound_scan.proofs.FewHops.{few_hops}
use Rattle.bound_scan.proofs.InCellsLaws.{clock_after}
use Rattle.bound_scan.proofs.KeysTaken.{hop_among, hops_at}
use Rattle.flow_graph.proofs.LongestLaws.{longest_later}
use Rattle.flow_graph.proofs.Profiles.{hop_may_end}
use Rattle.bound_scan.proofs.Scans.{Comes}

-- The end of the hop of this number can be reckoned from the leap: it is that hop's, of the angle at
-- which the instruction is found, and the numbers have room.
pub record CanEnd (g : Setting) (search : InstructionSearch) (number : ℕ) (leap : Leap) : Type 0 where
  pub hop : slice_get (hops g.loads g.notes search.location.number) number ≡ Some (leap_hop leap)
  pub found : search.found ≡ first (is_available search.location.number) search.begun
  pub time : TakesLongest g search.location.number (search.found % 50) leap
  pub may_end : MayEnd leap.hop.instruction (seen_way leap.hop.way)
  pub soon : search.found ≤ 4611686018427387904
  pub narrow : search.key < 4294967296
  pub few_hops : number < 4294967296

module _ {L : Type 0} (scan : Scan L) (search : InstructionSearch) (number : ℕ) (leap : Leap)
    (ready : IsReady scan search number leap) where
  -- It can be reckoned,
  pub can_end : CanEnd (setting_in scan) search number leap
  can_end =
      let g : Setting = setting_in scan in
      let place : ℕ = place_at (order_of scan) search.key in
      record {
        hop = subst (λ (at : ℕ). slice_get (hops g.loads g.notes at) number ≡ Some (leap_hop leap))
            (sym ready.search.there) ready.hop;
        found = ready.search.found;
        time = subst (λ (at : ℕ). TakesLongest g at (search.found % 50) leap) (sym ready.search.there) ready.leap.time;
        may_end = hop_may_end g.loads g.notes place leap.hop.instruction (seen_way leap.hop.way)
            (hop_among scan search.key number (seen_hop leap.hop) ready.hop);
        soon = ready.soon;
        narrow = omega (arith, ready.below, ready.keys.size, ready.keys.ordered.0.few);
        few_hops = omega (
          arith,
          slice_get_within (hops_at scan search.key) number (seen_hop leap.hop) ready.hop,
          few_hops g.loads g.notes place ready.keys.ordered.0.sound,
        );
      }

  -- and is the end that comes.
  pub sought_comes : Comes (setting_in scan) (order_of scan) search.key search.begun (hop_sought search number)
      (seen_hop leap.hop) (end_sought (setting_in scan) search number leap)
  sought_comes = record {
    from = refl;
    by = refl;
    ended = ap (λ (place : ℕ).
        longest (setting_in scan).times place leap.hop.instruction (seen_way leap.hop.way) search.begun)
        ready.search.there;
    is = ready.hop;
  }

  -- It is no earlier than the start angle.
  pub sought_after : scan.cells.entries.angle ≤ (end_sought (setting_in scan) search number leap).clock
  sought_after =
      let kept = ready.search.begun in
      omega (
        arith,
        clock_after scan.cells search.key kept.0 kept.1,
        kept.2,
        longest_later (setting_in scan).times search.location.number leap.hop.instruction (seen_way leap.hop.way)
            search.begun,
      )

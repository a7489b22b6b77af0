-- Of Scan::end: the leap is that of the hop, from the angle at which the instruction is found; so the
-- end is the latest that the hop can have, and its numbers have room.
use Rattle.std.proofs.Common.{ℕ, ◌+◌, Some, refl, ap, sym, ◌∙◌, arith}
use Rattle.machine_steps.specs.WaysLeft.{seen_way}
use Rattle.flow_graph.specs.Longest.{longest}
use Rattle.bound_scan.specs.ScanOf.{setting_in}
use Rattle.bound_scan.specs.SearchOf.{hop_sought}
use Rattle.bound_scan.proofs.InCellsLaws.{latest_of}
use Rattle.bound_scan.proofs.Sought.{can_end}
use Rattle.flow_graph.proofs.LongestLaws.{longest_from_found}
use Rattle.bound_scan.proofs.scan.Scan.end.Goals as goal

pub returns-clause-latest : goal.returns-clause-latest
returns-clause-latest g c =
    let scan = c.args.self.now in
    let search = c.args.search.now in
    let ins = c.args.leap.now.hop.instruction in
    let way = seen_way c.args.leap.now.hop.way in
    let can = can_end scan search c.args.number c.args.leap.now c.requires.ready in
    let times = (setting_in scan).times in
    ap (λ (clock : ℕ). latest_of clock (Some (hop_sought search c.args.number)))
    (ap (λ (time : ℕ). search.found + time) c.from.ensures
    ∙ sym (can.time search.found refl)
    ∙ ap (longest times search.location.number ins way) can.found
    ∙ longest_from_found times search.location.number ins way search.begun can.may_end.0 can.may_end.1)

pub overflow_cast-result : goal.overflow_cast-result
overflow_cast-result g c =
    omega (arith, (can_end c.args.self.now c.args.search.now c.args.number c.args.leap.now c.requires.ready).narrow)

pub overflow_cast-result-2 : goal.overflow_cast-result-2
overflow_cast-result-2 g c =
    omega (arith, (can_end c.args.self.now c.args.search.now c.args.number c.args.leap.now c.requires.ready).few_hops)

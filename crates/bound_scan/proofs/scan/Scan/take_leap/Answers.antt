-- Of Scan::take_leap: a hop that goes on raises what a later key keeps, and one that stops raises
-- the latest of all alone. So what is kept up to this key stays, and one hop less is left to take.
use Rattle.std.proofs.Common.{◌≡◌, ◌⊎◌, ◌+◌, ℕ, ap, sym, ◌∙◌, subst, inl, inr, arith}
use Rattle.indexmap.proofs.MapLemmas.{OnOk-map}
use Rattle.machine_steps.specs.Ways.{early, late}
use Rattle.machine_steps.specs.declared.ways.Way as code
use Rattle.machine_steps.specs.declared.ways.Way.TheVariants as way
use Rattle.machine_steps.specs.WaysLeft.{seen_way}
use Rattle.flow_graph.specs.Seen.{seen_hop}
use Rattle.bound_scan.specs.declared.cells.Cells.{Cells}
use Rattle.bound_scan.specs.declared.instruction_search.InstructionSearch.{InstructionSearch}
use Rattle.bound_scan.specs.declared.latest.Latest.{Latest}
use Rattle.bound_scan.specs.declared.leap.Leap.{Leap}
use Rattle.bound_scan.specs.declared.scan.Scan.{Scan}
use Rattle.bound_scan.specs.EndOf.{latest_in}
use Rattle.bound_scan.specs.InCells.{kept_in}
use Rattle.bound_scan.specs.Scanned.{cell_at, later, Taking}
use Rattle.bound_scan.specs.ScanOf.{setting_in, order_of, AreCells, Goes, HasRound, IsReady}
use Rattle.bound_scan.specs.SearchOf.{end_sought, hop_sought}
use Rattle.bound_scan.proofs.GoingOn.{goes_agreed, goes_taken}
use Rattle.bound_scan.proofs.KeysTaken.{cells_stopped, hop_among}
use Rattle.bound_scan.proofs.Scans.{take_stop}
use Rattle.bound_scan.proofs.Sought.{sought_comes}
use Rattle.bound_scan.proofs.scan.Scan.take_leap.Goals as goal

-- a hop is as ready when one more end was made
ready_after : {L : Type 0} (scan after : Scan L) (steps : ℕ) (search : InstructionSearch) (number : ℕ) (leap : Leap)
    → after ≡ record scan { steps = steps } → IsReady scan search number leap → IsReady after search number leap
ready_after scan after steps search number leap same ready =
    subst (λ (one : Scan _). IsReady one search number leap) (sym same)
    (record {
      keys = ready.keys;
      cells = ready.cells;
      below = ready.below;
      search = ready.search;
      hop = ready.hop;
      leap = ready.leap;
      soon = ready.soon;
    })

pub go_on-requires-clause-ready : goal.go_on-requires-clause-ready
go_on-requires-clause-ready g c =
    ready_after c.args.self.now c.end-end.new.self (c.args.self.now.steps + 1) c.args.search.now c.args.number
    c.args.leap.now c.end-end.ensures.same c.requires.ready

pub go_on-requires-clause-round : goal.go_on-requires-clause-round
go_on-requires-clause-round g c =
    subst (λ (one : Scan _). HasRound one c.args.search.now.key c.args.round.now) (sym c.end-end.ensures.same)
    c.requires.round

pub go_on-requires-clause-next : goal.go_on-requires-clause-next
go_on-requires-clause-next g c = ap seen_way c.in-To.is

pub go_on-requires-clause-end : goal.go_on-requires-clause-end
go_on-requires-clause-end g c =
    c.end-end.ensures.latest
    ∙ ap (λ (one : Scan _). end_sought (setting_in one) c.args.search.now c.args.number c.args.leap.now)
    (sym c.end-end.ensures.same)

-- a scan in which other cells stand, and other ends were made
after_leap : {L : Type 0} (scan after : Scan L) (cells : Cells) (steps : ℕ)
    → after ≡ record scan { cells = cells; steps = steps }
    → after ≡ record scan { cells = cells; steps = after.steps }
after_leap scan after cells steps same =
    same ∙ ap (λ (n : ℕ). record scan { cells = cells; steps = n }) (sym (ap (λ (one : Scan _). one.steps) same))

pub returns-in-To-clause-same : goal.returns-in-To-clause-same
returns-in-To-clause-same g c =
    let scan = c.args.self.now in
    OnOk-map c.go_on.result _ _
    (λ same. after_leap scan c.go_on.new.self c.go_on.new.self.cells (scan.steps + 1)
    (same ∙ ap (λ (one : Scan _). record one { cells = c.go_on.new.self.cells }) c.end-end.ensures.same))
    c.go_on.ensures.same

pub returns-in-To-clause-steps : goal.returns-in-To-clause-steps
returns-in-To-clause-steps g c =
    OnOk-map c.go_on.result _ _
    (λ same. ap (λ (one : Scan _). one.steps) same ∙ ap (λ (one : Scan _). one.steps) c.end-end.ensures.same)
    c.go_on.ensures.same

pub returns-in-To-clause-cells : goal.returns-in-To-clause-cells
returns-in-To-clause-cells g c =
    OnOk-map c.go_on.result _ _
    (subst (λ (one : Scan _). AreCells (setting_in one) (order_of one) c.go_on.new.self.cells) c.end-end.ensures.same)
    c.go_on.ensures.cells

pub returns-in-To-clause-agreed : goal.returns-in-To-clause-agreed
returns-in-To-clause-agreed g c =
    let scan = c.args.self.now in
    let search = c.args.search.now in
    let ready = c.requires.ready in
    OnOk-map c.go_on.result _ _
    (λ goes. goes_agreed (setting_in scan) (order_of scan) ready.keys.ordered.0
    search.key (omega (arith, ready.below, ready.keys.size))
    (seen_hop c.args.leap.now.hop) c.in-To.next.number
    (end_sought (setting_in scan) search c.args.number c.args.leap.now) (kept_in scan.cells)
    scan.cells.last (kept_in c.go_on.new.self.cells) c.go_on.new.self.cells.last
    (hop_among scan search.key c.args.number (seen_hop c.args.leap.now.hop) ready.hop)
    (ap seen_way c.in-To.is)
    (subst (λ (one : Scan _). Goes (setting_in one) (order_of one) search.key c.in-To.next.number
    (end_sought (setting_in one) search c.args.number c.args.leap.now) (kept_in one.cells) one.cells.last
    (kept_in c.go_on.new.self.cells) c.go_on.new.self.cells.last) c.end-end.ensures.same goes)) c.go_on.ensures.goes

pub returns-in-To-clause-taken : goal.returns-in-To-clause-taken
returns-in-To-clause-taken g c =
    let scan = c.args.self.now in
    let search = c.args.search.now in
    let ready = c.requires.ready in
    OnOk-map c.go_on.result _ _
    (λ goes. goes_taken (setting_in scan) (order_of scan) ready.keys.ordered.0 search.key
    (omega (arith, ready.below, ready.keys.size)) search.begun
    (hop_sought search c.args.number) (seen_hop c.args.leap.now.hop) c.in-To.next.number
    (end_sought (setting_in scan) search c.args.number c.args.leap.now) (kept_in scan.cells) scan.cells.last
    (kept_in c.go_on.new.self.cells) c.go_on.new.self.cells.last
    (sought_comes scan search c.args.number c.args.leap.now ready)
    (ap seen_way c.in-To.is)
    (subst (λ (one : Scan _). Goes (setting_in one) (order_of one) search.key c.in-To.next.number
    (end_sought (setting_in one) search c.args.number c.args.leap.now) (kept_in one.cells) one.cells.last
    (kept_in c.go_on.new.self.cells) c.go_on.new.self.cells.last) c.end-end.ensures.same goes)) c.go_on.ensures.goes

-- a hop stops early or late
stops : (w : code.Way) → (w ≡ way.Early) ⊎ (w ≡ way.Late) → (seen_way w ≡ early) ⊎ (seen_way w ≡ late)
stops w (inl e) = inl (ap seen_way e)
stops w (inr e) = inr (ap seen_way e)

-- the cells after the end of a hop that stops
cells_after : {L : Type 0} (scan after : Scan L) (steps : ℕ) (cells : Cells) (end new : Latest)
    → after ≡ record scan { steps = steps } → end ≡ new
    → cells ≡ record after.cells { last = later after.cells.last end }
    → cells ≡ record scan.cells { last = later scan.cells.last new }
cells_after scan after steps cells end new same own is =
    is ∙ ap (λ (one : Scan _). record one.cells { last = later one.cells.last end }) same
    ∙ ap (λ (l : Latest). record scan.cells { last = later scan.cells.last l }) own

pub returns-in-Early-clause-same : goal.returns-in-Early-clause-same
returns-in-Early-clause-same g c =
    let scan = c.args.self.now in
    after_leap scan (record c.end-end.new.self { cells = c.stop.new.self }) c.stop.new.self (scan.steps + 1)
    (ap (λ (one : Scan _). record one { cells = c.stop.new.self }) c.end-end.ensures.same)

pub returns-in-Early-clause-cells : goal.returns-in-Early-clause-cells
returns-in-Early-clause-cells g c =
    let scan = c.args.self.now in
    let new = end_sought (setting_in scan) c.args.search.now c.args.number c.args.leap.now in
    subst (AreCells (setting_in scan) (order_of scan))
    (sym (cells_after scan c.end-end.new.self (scan.steps + 1) c.stop.new.self (latest_in c.end-end.result) new
    c.end-end.ensures.same c.end-end.ensures.latest c.stop.ensures))
    (cells_stopped (setting_in scan) (order_of scan) scan.cells (later scan.cells.last new) c.requires.ready.cells)

pub returns-in-Early-clause-agreed : goal.returns-in-Early-clause-agreed
returns-in-Early-clause-agreed g c = λ other within.
    let scan = c.args.self.now in
    let new = end_sought (setting_in scan) c.args.search.now c.args.number c.args.leap.now in
    ap (λ (cells : Cells). cell_at (kept_in cells) other)
    (cells_after scan c.end-end.new.self (scan.steps + 1) c.stop.new.self (latest_in c.end-end.result) new
    c.end-end.ensures.same c.end-end.ensures.latest c.stop.ensures)

pub returns-in-Early-clause-taken : goal.returns-in-Early-clause-taken
returns-in-Early-clause-taken g c = λ left taking.
    let scan = c.args.self.now in
    let search = c.args.search.now in
    let new = end_sought (setting_in scan) search c.args.number c.args.leap.now in
    subst (λ (cells : Cells).
    Taking (setting_in scan) (order_of scan) search.key search.begun left (kept_in cells) cells.last)
    (sym (cells_after scan c.end-end.new.self (scan.steps + 1) c.stop.new.self (latest_in c.end-end.result) new
    c.end-end.ensures.same c.end-end.ensures.latest c.stop.ensures))
    (take_stop (setting_in scan) (order_of scan) search.key search.begun (hop_sought search c.args.number)
    (seen_hop c.args.leap.now.hop) new left (kept_in scan.cells) scan.cells.last
    (sought_comes scan search c.args.number c.args.leap.now c.requires.ready)
    (stops c.args.leap.now.hop.way c.in-Early.is) taking)

-- Of Scan::take_leaps: halfway through a key, the first hops have been taken and the others are
-- left (Halfway). The leaps of the location are its hops, each from the angle at which its
-- instruction is found.
use Rattle.std.proofs.Common.{◌≡◌, ℕ, ◌+◌, ◌%◌, List, length, map, Some, refl, ap, sym, ◌∙◌, subst, arith}
use Rattle.std.specs.Prelude.{slice_get, Contains}
use Rattle.std.specs.Option.{option_map}
use Rattle.std.proofs.lemmas.List.{length-map}
use Rattle.std.proofs.lemmas.Option.{slice_get-map, slice_get_read}
use Rattle.base_graphs.proofs.Lists.{contains_from_get}
use Rattle.flow_graph.specs.Hops.{Hop}
use Rattle.flow_graph.proofs.FromAngles.{found_angle}
use Rattle.bound_scan.specs.declared.leap.Leap.{Leap}
use Rattle.bound_scan.specs.declared.scan.Scan.{Scan}
use Rattle.bound_scan.specs.declared.instruction_search.InstructionSearch.{InstructionSearch}
use Rattle.bound_scan.specs.InCells.{kept_in}
use Rattle.bound_scan.specs.Keys.{place_at}
use Rattle.bound_scan.specs.LeapOf.{AreLeaps, IsLeap, leap_hop}
use Rattle.bound_scan.specs.ScanOf.{setting_in, order_of, HasRound, IsScanned}
use Rattle.bound_scan.specs.SearchOf.{IsSearch}
use Rattle.bound_scan.proofs.Halfway.{half_all, half_more, half_none, half_ready, half_turn}
use Rattle.bound_scan.proofs.KeysTaken.{hops_at}
use Rattle.bound_scan.proofs.scan.Scan.take_leaps.Goals as goal

-- a leap of the location's is of one of its hops
hop_is : {L : Type 0} (scan : Scan L) (key number : ℕ) (leaps : List Leap) (leap : Leap) → map leap_hop leaps ≡ hops_at scan key
    → slice_get leaps number ≡ Some leap → slice_get (hops_at scan key) number ≡ Some (leap_hop leap)
hop_is scan key number leaps leap same at =
    ap (λ (hops : List Hop). slice_get hops number) (sym same) ∙ slice_get-map leap_hop leaps number
    ∙ ap (option_map leap_hop) at

-- and begins at the angle at which the instruction is found
leap_is : {L : Type 0} (scan : Scan L) (search : InstructionSearch) (leaps : List Leap) (leap : Leap)
    → AreLeaps (setting_in scan) (order_of scan) (place_at (order_of scan) search.key) leaps → Contains leaps leap
    → IsSearch (order_of scan) (kept_in scan.cells) search
    → IsLeap (setting_in scan) (order_of scan) (place_at (order_of scan) search.key) (search.found % 50) leap
leap_is scan search leaps leap are has sought =
    let place = place_at (order_of scan) search.key in
    let angle : search.found % 50 ≡ place % 50 =
    ap (λ (n : ℕ). n % 50) sought.found
    ∙ found_angle search.location.number search.begun (omega (arith, sought.there, are.drum))
    ∙ ap (λ (n : ℕ). n % 50) sought.there in
    subst (λ (n : ℕ). IsLeap (setting_in scan) (order_of scan) place n leap) (sym angle) (are.each leap has)

pub loop-number-init : goal.loop-number-init
loop-number-init g c =
    record {
      same = refl;
      half =
          half_none c.args.self.now c.args.search.now.key c.args.search.now.begun c.requires.scanned
          c.requires.search.begun;
    }

pub take_leap-requires-clause-ready : goal.take_leap-requires-clause-ready
take_leap-requires-clause-ready g c =
    let scan = c.args.self.now in
    let search = c.args.search.now in
    let leaps = c.args.leaps.now in
    let number = c.loop-number.number in
    let leap = c.index-leaps-number.result in
    let at : slice_get leaps number ≡ Some leap =
    slice_get_read leaps (length leaps) number leap refl c.loop-number-test.true c.index-leaps-number.is in
    half_ready scan c.loop-number.self search number leap c.loop-number.invariant.same
    c.requires.scanned c.loop-number.invariant.half c.requires.below c.requires.search
    (hop_is scan search.key number leaps leap c.requires.leaps.hops at)
    (leap_is scan search leaps leap c.requires.leaps (contains_from_get leaps number leap at) c.requires.search)

pub take_leap-requires-clause-turn : goal.take_leap-requires-clause-turn
take_leap-requires-clause-turn g c =
    let scan = c.args.self.now in
    let search = c.args.search.now in
    let leaps = c.args.leaps.now in
    let number = c.loop-number.number in
    let leap = c.index-leaps-number.result in
    let at : slice_get leaps number ≡ Some leap =
    slice_get_read leaps (length leaps) number leap refl c.loop-number-test.true c.index-leaps-number.is in
    half_turn scan c.loop-number.self search.key search.begun number (leap_hop leap) c.loop-number.invariant.same
    c.requires.scanned c.loop-number.invariant.half c.requires.below
    (hop_is scan search.key number leaps leap c.requires.leaps.hops at)

pub take_leap-requires-clause-round : goal.take_leap-requires-clause-round
take_leap-requires-clause-round g c =
    subst (λ (one : Scan _). HasRound one c.args.search.now.key c.args.round.now)
    (sym c.loop-number.invariant.same) c.requires.round

-- there are as many leaps as hops
as_many : {L : Type 0} (scan : Scan L) (key : ℕ) (leaps : List Leap) → map leap_hop leaps ≡ hops_at scan key
    → length leaps ≡ length (hops_at scan key)
as_many scan key leaps same = sym (length-map leaps leap_hop) ∙ ap (λ (hops : List Hop). length hops) same

pub loop-number-preserved : goal.loop-number-preserved
loop-number-preserved g c =
    let scan = c.args.self.now in
    let search = c.args.search.now in
    let leaps = c.args.leaps.now in
    let number = c.loop-number.number in
    let leap = c.index-leaps-number.result in
    let at : slice_get leaps number ≡ Some leap =
    slice_get_read leaps (length leaps) number leap refl c.loop-number-test.true c.index-leaps-number.is in
    let after = c.take_leap.new.self in
    record {
      same = c.in_ok-take_leap.ensures.same
          ∙ ap (λ (one : Scan _). record one { cells = after.cells; steps = after.steps }) c.loop-number.invariant.same;
      half = half_more scan c.loop-number.self search.key search.begun number (leap_hop leap) after.cells after.steps
          c.loop-number.invariant.same c.loop-number.invariant.half
          (hop_is scan search.key number leaps leap c.requires.leaps.hops at) c.in_ok-take_leap.ensures.cells
          c.in_ok-take_leap.ensures.steps c.in_ok-take_leap.ensures.agreed c.in_ok-take_leap.ensures.taken;
    }

pub returns-clause-scanned : goal.returns-clause-scanned
returns-clause-scanned g c =
    let scan = c.args.self.now in
    let key = c.args.search.now.key in
    let all : c.loop-number.number ≡ length (hops_at scan key) =
    omega (
      arith,
      c.loop-number-test.false,
      c.loop-number.auto.number-end,
      as_many scan key c.args.leaps.now
          c.requires.leaps.hops,
    ) in
    subst (λ (one : Scan _). IsScanned one (key + 1)) (sym c.loop-number.invariant.same)
    (half_all scan key c.args.search.now.begun c.loop-number.number c.loop-number.self.cells c.loop-number.self.steps c.requires.scanned
    c.requires.search.begun c.loop-number.invariant.half all)

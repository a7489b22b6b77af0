-- Of Scan::take_hops: halfway through a key, the first hops have been taken and the others are left
-- (Halfway). The leap of each is as Keys::leap makes it, or that of one that takes as long
-- (RecentOf).
use Rattle.std.proofs.Common.{◌≡◌, ℕ, ◌+◌, ◌%◌, ◌∷◌, [], List, drop, length, Some, inl, refl, ap, sym, ◌∙◌, subst}
use Rattle.std.proofs.Common.{arith}
use Rattle.std.specs.declared.iter.Enumerate.{Enumerate}
use Rattle.std.specs.Iterator.Adapters.{enumerate_count, enumerate_source}
use Rattle.std.specs.Prelude.{slice_get, Contains}
use Rattle.flow_graph.specs.declared.hops.Hop as code
use Rattle.flow_graph.specs.declared.hops.Hops.{Hops}
use Rattle.flow_graph.specs.Hops.{Hop, hops}
use Rattle.flow_graph.specs.HopsLeft.{hops_left}
use Rattle.flow_graph.specs.Seen.{seen_hop}
use Rattle.bound_scan.specs.declared.leap.Leap.{Leap}
use Rattle.bound_scan.specs.declared.scan.Scan.{Scan}
use Rattle.bound_scan.specs.Keys.{place_at}
use Rattle.bound_scan.specs.LeapOf.{IsLeap, leap_hop}
use Rattle.bound_scan.specs.RecentOf.{AreRecent}
use Rattle.bound_scan.specs.ScanOf.{setting_in, order_of, HasRound, IsReady, IsScanned, IsTurn}
use Rattle.bound_scan.proofs.FewHops.{few_hops}
use Rattle.bound_scan.proofs.Halfway.{half_all, half_more, half_none, half_ready, half_turn, IsHalfway}
use Rattle.bound_scan.proofs.KeyLaws.{place_there}
use Rattle.bound_scan.proofs.KeysTaken.{hop_among, hops_at}
use Rattle.bound_scan.proofs.Lists.{first_left, others_left}
use Rattle.bound_scan.proofs.Recents.{recent_none}
use Rattle.bound_scan.proofs.scan.Scan.take_hops.Goals as goal

pub loop-number-init-derived : goal.loop-number-init-derived
loop-number-init-derived g c =
    let scan = c.args.self.now in
    let g = setting_in scan in
    let each = c.into_iter-number-iterator in
    let number : enumerate_count each.result ≡ 0 =
    ap enumerate_count each.ensures.into_iter_gives ∙ c.enumerate-number-items.ensures.count in
    let left : hops_left (enumerate_source each.result) ≡ hops_at scan c.args.search.now.key =
    ap (λ (e : Enumerate Hops). hops_left (enumerate_source e)) each.ensures.into_iter_gives
    ∙ ap hops_left c.enumerate-number-items.ensures.source ∙ c.requires.hops in
    let few = few_hops g.loads g.notes (place_at (order_of scan) c.args.search.now.key)
    c.requires.scanned.keys.ordered.0.sound in
    ((tt, tt, inl (omega (arith, number, few, ap (λ (hops : List Hop). length hops) left))), tt)

pub loop-number-init : goal.loop-number-init
loop-number-init g c =
    let scan = c.args.self.now in
    let key = c.args.search.now.key in
    let each = c.into_iter-number-iterator in
    let number : enumerate_count each.result ≡ 0 =
    ap enumerate_count each.ensures.into_iter_gives ∙ c.enumerate-number-items.ensures.count in
    let left : hops_left (enumerate_source each.result) ≡ hops_at scan key =
    ap (λ (e : Enumerate Hops). hops_left (enumerate_source e)) each.ensures.into_iter_gives
    ∙ ap hops_left c.enumerate-number-items.ensures.source ∙ c.requires.hops in
    record {
      same = refl;
      half = subst (λ (n : ℕ). IsHalfway scan key c.args.search.now.begun n scan.cells scan.steps) (sym number)
          (half_none scan key c.args.search.now.begun c.requires.scanned c.requires.search.begun);
      left = ap (λ (n : ℕ). drop n (hops_at scan key)) number ∙ sym left;
      long = omega (arith, number, ap (λ (hops : List Hop). length hops) left);
      recent = subst (AreRecent (setting_in scan) (order_of scan) c.args.search.now.location.number
          (c.args.search.now.found % 50)) (sym c.none-recent.ensures)
          (recent_none (setting_in scan) (order_of scan) c.args.search.now.location.number
          (c.args.search.now.found % 50) 50);
    }

-- the hop that comes is that of its number
comes : {L : Type 0} (scan : Scan L) (key number : ℕ) (left rest : List Hop) (hop : Hop) → drop number (hops_at scan key) ≡ left
    → left ≡ hop ∷ rest → slice_get (hops_at scan key) number ≡ Some hop
comes scan key number left rest hop so_far step = first_left number (hops_at scan key) rest hop (so_far ∙ step)

pub leap-leap-requires-clause-there : goal.leap-leap-requires-clause-there
leap-leap-requires-clause-there g c =
    let scan = c.args.self.now in
    subst (Contains (order_of scan)) (sym c.requires.search.there)
    (place_there (setting_in scan).notes.marks (order_of scan) c.args.search.now.key
    (omega (arith, c.requires.below, c.requires.scanned.keys.size)))

pub leap-leap-requires-clause-hop : goal.leap-leap-requires-clause-hop
leap-leap-requires-clause-hop g c =
    let scan = c.args.self.now in
    let key = c.args.search.now.key in
    let hop : Hop = seen_hop c.in-Some.hop in
    let number = enumerate_count c.loop-number.number-iterator in
    let at : slice_get (hops_at scan key) number ≡ Some hop =
    comes scan key number (hops_left (enumerate_source c.loop-number.number-iterator))
    (hops_left (enumerate_source c.next.new.self)) hop c.loop-number.invariant.left c.in-Some.ensures.steps.0 in
    subst (λ (place : ℕ). Contains (hops (setting_in scan).loads (setting_in scan).notes place) hop)
    (sym c.requires.search.there) (hop_among scan key number hop at)

-- its leap, by the place of its key
leap_there : {L : Type 0} (scan : Scan L) (place other angle : ℕ) (leap : Leap) → place ≡ other
    → IsLeap (setting_in scan) (order_of scan) place angle leap
    → IsLeap (setting_in scan) (order_of scan) other angle leap
leap_there scan place other angle leap same is =
    subst (λ (n : ℕ). IsLeap (setting_in scan) (order_of scan) n angle leap) same is

pub take_leap-requires-clause-ready : goal.take_leap-requires-clause-ready
take_leap-requires-clause-ready g c =
    let scan = c.args.self.now in
    let search = c.args.search.now in
    let leap = c.leap-leap.result in
    let number = enumerate_count c.loop-number.number-iterator in
    let at : slice_get (hops_at scan search.key) number ≡ Some (seen_hop c.in-Some.hop) =
    comes scan search.key number (hops_left (enumerate_source c.loop-number.number-iterator))
    (hops_left (enumerate_source c.next.new.self)) (seen_hop c.in-Some.hop) c.loop-number.invariant.left
    c.in-Some.ensures.steps.0 in
    subst (λ (n : ℕ). IsReady c.loop-number.self search n leap) (sym c.in-Some.ensures.steps.1)
    (half_ready scan c.loop-number.self search number leap c.loop-number.invariant.same
    c.requires.scanned c.loop-number.invariant.half c.requires.below c.requires.search
    (at ∙ ap (λ (h : code.Hop). Some (seen_hop h)) (sym c.leap-leap.ensures.hop))
    (leap_there scan search.location.number (place_at (order_of scan) search.key) (search.found % 50) leap
    c.requires.search.there c.leap-leap.ensures.leap))

pub take_leap-requires-clause-turn : goal.take_leap-requires-clause-turn
take_leap-requires-clause-turn g c =
    let scan = c.args.self.now in
    let search = c.args.search.now in
    let number = enumerate_count c.loop-number.number-iterator in
    let at : slice_get (hops_at scan search.key) number ≡ Some (seen_hop c.in-Some.hop) =
    comes scan search.key number (hops_left (enumerate_source c.loop-number.number-iterator))
    (hops_left (enumerate_source c.next.new.self)) (seen_hop c.in-Some.hop) c.loop-number.invariant.left
    c.in-Some.ensures.steps.0 in
    subst (IsTurn c.loop-number.self search.key) (sym c.in-Some.ensures.steps.1)
    (half_turn scan c.loop-number.self search.key search.begun number (seen_hop c.in-Some.hop)
    c.loop-number.invariant.same c.requires.scanned c.loop-number.invariant.half c.requires.below at)

pub take_leap-requires-clause-round : goal.take_leap-requires-clause-round
take_leap-requires-clause-round g c =
    subst (λ (one : Scan _). HasRound one c.args.search.now.key c.args.round.now)
    (sym c.loop-number.invariant.same) c.requires.round

pub loop-number-preserved : goal.loop-number-preserved
loop-number-preserved g c =
    let scan = c.args.self.now in
    let search = c.args.search.now in
    let key = search.key in
    let leap = c.leap-leap.result in
    let number = enumerate_count c.loop-number.number-iterator in
    let hop : Hop = seen_hop c.in-Some.hop in
    let rest = hops_left (enumerate_source c.next.new.self) in
    let step : hops_left (enumerate_source c.loop-number.number-iterator) ≡ hop ∷ rest = c.in-Some.ensures.steps.0 in
    let next_number : enumerate_count c.next.new.self ≡ number + 1 = c.in-Some.ensures.steps.2 in
    let at : slice_get (hops_at scan key) number ≡ Some hop =
    comes scan key number (hops_left (enumerate_source c.loop-number.number-iterator)) rest hop
    c.loop-number.invariant.left step in
    let own : leap_hop leap ≡ hop = ap (λ (h : code.Hop). seen_hop h) c.leap-leap.ensures.hop in
    let after = c.take_leap.new.self in
    record {
      same = c.in_ok-take_leap.ensures.same
          ∙ ap (λ (one : Scan _). record one { cells = after.cells; steps = after.steps }) c.loop-number.invariant.same;
      half = subst (λ (n : ℕ). IsHalfway scan key search.begun n after.cells after.steps) (sym next_number)
          (half_more scan c.loop-number.self key search.begun number (leap_hop leap) after.cells after.steps
          c.loop-number.invariant.same c.loop-number.invariant.half
          (at ∙ ap (λ (h : Hop). Some h) (sym own)) c.in_ok-take_leap.ensures.cells
          c.in_ok-take_leap.ensures.steps
          c.in_ok-take_leap.ensures.agreed c.in_ok-take_leap.ensures.taken);
      left = ap (λ (n : ℕ). drop n (hops_at scan key)) next_number
          ∙ others_left number (hops_at scan key) rest hop (c.loop-number.invariant.left ∙ step);
      long = omega (arith, c.loop-number.invariant.long, next_number, ap (λ (hops : List Hop). length hops) step);
      recent = c.leap-leap.ensures.recent;
    }

pub returns-clause-scanned : goal.returns-clause-scanned
returns-clause-scanned g c =
    let scan = c.args.self.now in
    let key = c.args.search.now.key in
    let number = enumerate_count c.loop-number.number-iterator in
    let none : hops_left (enumerate_source c.loop-number.number-iterator) ≡ [] = c.in-None.ensures.steps.0.0 in
    let all : number ≡ length (hops_at scan key) =
    omega (arith, c.loop-number.invariant.long, ap (λ (hops : List Hop). length hops) none) in
    subst (λ (one : Scan _). IsScanned one (key + 1)) (sym c.loop-number.invariant.same)
    (half_all scan key c.args.search.now.begun number c.loop-number.self.cells c.loop-number.self.steps c.requires.scanned
    c.requires.search.begun c.loop-number.invariant.half all)

-- Of Scan::take_key: a key at which nothing is kept has no hops to take. Any other one's search
-- begins at the clock that it keeps, and its hops are taken, with the leaps of its location where
-- there are any.
use Rattle.std.proofs.Common.{◌≡◌, ℕ, ◌+◌, ◌%◌, List, length, get_or, Option, Some, Vec, Global, refl, ap, sym, ◌∙◌}
use Rattle.std.proofs.Common.{subst, arith}
use Rattle.std.specs.Prelude.{slice_get}
use Rattle.std.proofs.lemmas.Option.{get_or_from_slice_get, slice_get_read}
use Rattle.flow_graph.specs.Hops.{hops}
use Rattle.bound_scan.specs.declared.leap.Leap.{Leap}
use Rattle.bound_scan.specs.Keys.{place_at}
use Rattle.bound_scan.specs.LeapOf.{AreLeaps}
use Rattle.bound_scan.specs.ScanOf.{setting_in, order_of}
use Rattle.bound_scan.proofs.KeysTaken.{skipped}
use Rattle.bound_scan.proofs.scan.Scan.take_key.Goals as goal

-- the location of the key
place_is : (order : List ℕ) (key index number : ℕ) → slice_get order index ≡ Some number → key % length order ≡ index
    → number ≡ place_at order key
place_is order key index number at rest =
    sym (get_or_from_slice_get order index number 0 at) ∙ ap (λ (k : ℕ). get_or order k 0) (sym rest)

pub returns-in_default-clause-scanned : goal.returns-in_default-clause-scanned
returns-in_default-clause-scanned g c =
    skipped c.args.self.now (c.args.round.now.own.first + c.args.index) c.requires.scanned c.in_default.ensures

pub take_leaps-requires-clause-search : goal.take_leaps-requires-clause-search
take_leaps-requires-clause-search g c = record {
  there = place_is (order_of c.args.self.now) (c.args.round.now.own.first + c.args.index) c.args.index
      c.location-location.result.number c.location-location.ensures c.requires.rest;
  begun = c.in-Some.ensures;
  found = c.found.ensures.value;
}

pub take_leaps-requires-clause-leaps : goal.take_leaps-requires-clause-leaps
take_leaps-requires-clause-leaps g c =
    let scan = c.args.self.now in
    let key = c.args.round.now.own.first + c.args.index in
    let leaps = c.in-Some-leaps.leaps in
    let all = scan.leaps.now in
    let there = place_is (order_of scan) key c.args.index c.location-location.result.number
    c.location-location.ensures c.requires.rest in
    let at : slice_get all c.args.index ≡ Some (Some leaps) =
    slice_get_read all (length all) c.args.index c.index-leaps-index.result refl
    (omega (arith, c.requires.index, c.requires.scanned.leaps.long)) c.index-leaps-index.is
    ∙ ap (λ (one : Option (Vec Leap Global)). Some one) c.in-Some-leaps.is in
    subst (λ (place : ℕ). AreLeaps (setting_in scan) (order_of scan) place c.deref.result.now) there
    (subst (AreLeaps (setting_in scan) (order_of scan) c.location-location.result.number) (sym c.deref.ensures.value)
    (c.requires.scanned.leaps.each c.args.index c.location-location.result.number leaps c.location-location.ensures
    at))

pub take_hops-requires-clause-search : goal.take_hops-requires-clause-search
take_hops-requires-clause-search g c = record {
  there = place_is (order_of c.args.self.now) (c.args.round.now.own.first + c.args.index) c.args.index
      c.location-location.result.number c.location-location.ensures c.requires.rest;
  begun = c.in-Some.ensures;
  found = c.found.ensures.value;
}

pub take_hops-requires-clause-hops : goal.take_hops-requires-clause-hops
take_hops-requires-clause-hops g c =
    let scan = c.args.self.now in
    c.node.ensures.hops
    ∙ ap (λ (place : ℕ). hops (setting_in scan).loads (setting_in scan).notes place)
    (place_is (order_of scan) (c.args.round.now.own.first + c.args.index) c.args.index
    c.node.result.location.number c.node.ensures.location c.requires.rest)

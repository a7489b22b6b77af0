-- Of Scan::visit: the origin names a hop of its key, so it is found; and the clocks of its begin
-- and its end, less the start angle, are the word times used then.
use Rattle.std.proofs.Common.{◌≡◌, ℕ, ◌+◌, ◌-◌, ◌%◌, ◌<◌, List, length, Some, None, ap, sym, ◌∙◌, arith}
use Rattle.std.specs.Prelude.{slice_get}
use Rattle.std.proofs.Math.Nat.{mod-lt}
use Rattle.std.proofs.lemmas.Option.{slice_get-get_or}
use Rattle.machine_steps.specs.WaysLeft.{seen_way}
use Rattle.flow_graph.specs.Hops.{Hop}
use Rattle.flow_graph.specs.Seen.{seen_hop}
use Rattle.flow_graph.specs.Walk.{Setting}
use Rattle.flow_walks.specs.Visited.{visited}
use Rattle.bound_scan.specs.declared.scan.Scan.{Scan}
use Rattle.bound_scan.specs.Keys.{place_at}
use Rattle.bound_scan.specs.ScanOf.{order_of, setting_in, size_in}
use Rattle.bound_scan.specs.TakenOf.{taken_of}
use Rattle.bound_scan.proofs.KeyLaws.{some_places}
use Rattle.bound_scan.proofs.Finished.{ends_soon, kept_after}
use Rattle.bound_scan.proofs.scan.Scan.visit.Goals as goal

pub overflow_sub-result : goal.overflow_sub-result
overflow_sub-result g c =
    omega (
      arith,
      kept_after c.args.self.now c.args.origin.key c.args.begin c.requires.done c.requires.begun,
      c.start_angle-angle.ensures,
    )

pub overflow_cast-result : goal.overflow_cast-result
overflow_cast-result g c =
    omega (
      arith,
      ends_soon c.args.self.now c.args.origin c.args.begin c.args.end.clock c.requires.from c.requires.begun,
    )

place_read : {L : Type 0} (scan : Scan L) (key index : ℕ) → key < size_in scan → index ≡ key % length (order_of scan)
    → slice_get (order_of scan) index ≡ Some (place_at (order_of scan) key)
place_read scan key index below at =
    ap (slice_get (order_of scan)) at
    ∙ slice_get-get_or (order_of scan) (key % length (order_of scan)) 0
    (mod-lt key (some_places (setting_in scan).notes.marks (order_of scan) key below))

pub unreachable-requires : goal.unreachable-requires
unreachable-requires g c =
    go c.requires.from.hop
    (sym c.requires.from.is ∙ c.in_default.ensures (place_at (order_of c.args.self.now) c.args.origin.key)
    (place_read c.args.self.now c.args.origin.key c.args.index c.requires.from.below c.requires.index))
  where
    go : (hop : Hop) → Some hop ≡ None → ⊥
    go hop e = cc

pub returns : goal.returns
returns g c = λ hop is.
    let scan = c.args.self.now in
    let setting : Setting = setting_in scan in
    let order : List ℕ = order_of scan in
    let key = c.args.origin.key in
    let begun = c.args.begin.clock - c.start_angle-angle.result in
    let ended = c.args.end.clock - c.start_angle-angle.result in
    let read = c.in-Some.ensures (place_at order key)
    (place_read scan key c.args.index c.requires.from.below c.requires.index) in
    let there : c.location.result.number ≡ place_at order key =
    at c.location.result.number (place_at order key)
    (sym c.location.ensures ∙ place_read scan key c.args.index c.requires.from.below c.requires.index) in
    let sum : begun + (c.args.end.clock - c.args.begin.clock) ≡ ended =
    omega (
      arith,
      kept_after scan key c.args.begin c.requires.done c.requires.begun,
      c.start_angle-angle.ensures,
      c.requires.later,
    ) in
    let same : seen_hop c.in-Some.hop ≡ hop = go (seen_hop c.in-Some.hop) hop (sym read ∙ is) in
    ap (λ (place : ℕ). record {
      place = place;
      ins = c.in-Some.hop.instruction;
      way =
          seen_way c.in-Some.hop.way;
      begun = begun;
      ended = begun + (c.args.end.clock - c.args.begin.clock);
    }) there
    ∙ ap (λ (end : ℕ). record {
      place = place_at order key;
      ins = c.in-Some.hop.instruction;
      way =
          seen_way c.in-Some.hop.way;
      begun = begun;
      ended = end;
    }) sum
    ∙ ap (λ (h : Hop). visited (taken_of setting order key h begun ended)) same
    ∙ ap (λ (angle : ℕ). visited (taken_of setting order key hop (c.args.begin.clock - angle) (c.args.end.clock - angle)))
    c.start_angle-angle.ensures
  where
    go : (one other : Hop) → Some one ≡ Some other → one ≡ other
    go one other e = cc

    at : (one other : ℕ) → Some one ≡ Some other → one ≡ other
    at one other e = cc

-- Of by_kind: each kind that the walk so far has come to has the sums over its hops, and no other
-- has any. The walk's hops are few and its time is short, so the sums have room.
use Rattle.std.proofs.Common.{◌≡◌, ◌+◌, ℕ, cond, Some, None, Option, ap, subst, sym, ◌∙◌, [], ◌∷◌, ◌++◌, take, arith}
use Rattle.std.proofs.Common.{refl}
use Rattle.indexmap.specs.IndexMap.{get}
use Rattle.base_notes.specs.Entries.{entry_in}
use Rattle.print_hops.specs.declared.kind.Kind.{Kind}
use Rattle.print_hops.specs.KindsOf.{kind_of, same_kind}
use Rattle.print_hops.proofs.SameKinds.{get_same, unique_same, update_same}
use Rattle.print_walks.specs.declared.waits.wait.Wait.{Wait}
use Rattle.print_walks.specs.WaitsOf.{of_kind, row_of}
use Rattle.print_walks.proofs.WaitRows.{HasRoom, has_room, row_begun, row_more, rows_more}
use Rattle.print_walks.proofs.waits.adding.by_kind.Goals as goal
use Rattle.print_walks.proofs.waits.adding.by_kind.Goals.{in-Some, in-None}

-- the sums that are there leave room for the hop at hand
room : (c : goal.After-sums-1) → HasRoom (entry_in c.args.times.now) c.args.angle c.visit-item.result c.in-Some.wait.now
room c =
    has_room (entry_in c.args.times.now) c.args.angle c.of-kind.result c.args.walk.now c.loop-visit.visit-index
    c.visit-item.result c.in-Some.wait.now c.loop-visit-test.true c.visit-item.is c.requires.few c.requires.short
    (get_same c.loop-visit.waits c.of-kind.result (Some c.in-Some.wait.now) c.in-Some.ensures.value
    ∙ c.loop-visit.invariant.found c.of-kind.result)

pub plus-requires-clause-visits : goal.plus-requires-clause-visits
plus-requires-clause-visits c = omega (arith, (room c).visits, c.spent_by-sums.ensures.visits)

pub plus-requires-clause-time : goal.plus-requires-clause-time
plus-requires-clause-time c = omega (arith, (room c).time, c.spent_by-sums.ensures.time)

pub plus-requires-clause-instruction : goal.plus-requires-clause-instruction
plus-requires-clause-instruction c = omega (arith, (room c).instruction, c.spent_by-sums.ensures.instruction)

pub plus-requires-clause-operand : goal.plus-requires-clause-operand
plus-requires-clause-operand c = omega (arith, (room c).had, c.spent_by-sums.ensures.operand)

pub loop-visit-preserved : goal.loop-visit-preserved
loop-visit-preserved c =
    let times = entry_in c.args.times.now in
    let angle = c.args.angle in
    let walk = c.args.walk.now in
    let i = c.loop-visit.visit-index in
    let visit = c.visit-item.result in
    let kind = c.of-kind.result in
    let old = c.loop-visit.waits in
    let new = c.insert.new.self in
    let hops = of_kind (kind_of visit) (take i walk) in
    let at : (found : Option Wait) → found ≡ get same_kind old kind → found ≡ row_of times angle hops =
    λ found is. is ∙ c.loop-visit.invariant.found kind
    ∙ ap (λ (k : Kind). row_of times angle (of_kind k (take i walk))) c.of-kind.ensures in
    let row : row_of times angle (hops ++ visit ∷ []) ≡ Some c.match-get.wait =
    elim c.match-get.branch [
      | in-Some w ↦
          let before = w.in-Some.wait.now in
          row_more times angle hops visit before (record { first = before.first; sums = w.plus.result })
          (at (Some before) (get_same old kind (Some before) w.in-Some.ensures.value))
          refl (w.plus.ensures.visits ∙ ap (λ (n : ℕ). before.sums.visits + n) c.spent_by-sums.ensures.visits)
          (w.plus.ensures.time ∙ ap (λ (n : ℕ). before.sums.time + n) c.spent_by-sums.ensures.time)
          (w.plus.ensures.instruction
          ∙ ap (λ (n : ℕ). before.sums.instruction + n) c.spent_by-sums.ensures.instruction)
          (w.plus.ensures.operand ∙ ap (λ (n : ℕ). before.sums.operand + n) c.spent_by-sums.ensures.operand)
          ∙ ap (λ (wait : Wait). Some wait) (sym w.wait-is)
      | in-None w ↦
          row_begun times angle hops visit (record { first = visit; sums = c.spent_by-sums.result })
          (at None (get_same old kind None w.in-None.ensures.value))
          refl c.spent_by-sums.ensures.visits c.spent_by-sums.ensures.time c.spent_by-sums.ensures.instruction
          c.spent_by-sums.ensures.operand
          ∙ ap (λ (wait : Wait). Some wait) (sym w.wait-is)
    ] in
    record {
      found =
          rows_more times angle walk i visit c.match-get.wait (get same_kind old) (get same_kind new)
          c.loop-visit-test.true c.visit-item.is c.loop-visit.invariant.found row
          (subst (λ (k : Kind). (other : Kind) → get same_kind new other
          ≡ cond (same_kind k other) (Some c.match-get.wait) (get same_kind old other)) c.of-kind.ensures
          (update_same old new kind c.match-get.wait c.in_ok-insert.ensures.updates.0));
      apart = unique_same new c.in_ok-insert.ensures.unique;
    }

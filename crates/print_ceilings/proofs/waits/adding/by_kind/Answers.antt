-- Of by_kind: each kind that a piece so far is of has the sums over these pieces, and no other has
-- any. The walk's hops are few and its time is short, so the sums have room.
use Rattle.std.proofs.Common.{◌≡◌, ◌+◌, ◌∙◌, true, Option, Some, None, ap, subst, sym}
use Rattle.std.specs.Prelude.{cond}
use Rattle.indexmap.specs.IndexMap.{get}
use Rattle.base_notes.specs.Entries.{entry_in}
use Rattle.flow_walks.specs.declared.piece.Placed.{Placed}
use Rattle.flow_walks.specs.Pieces.{seen_placed}
use Rattle.ceiling_rounds.specs.InRounds.{often_of, pieces_of}
use Rattle.print_hops.specs.declared.kind.Kind.{Kind}
use Rattle.print_hops.specs.KindsOf.{same_kind}
use Rattle.print_hops.proofs.SameKinds.{get_same, same_kind_equiv, unique_same, update_same}
use Rattle.print_ceilings.specs.declared.waits.kind_row.KindRow.{KindRow}
use Rattle.print_ceilings.specs.RoundsWaitsOf.{is_of, kind_of, IsRow, IsRowOf}
use Rattle.print_ceilings.proofs.PieceAt.{at_here, hop_here, no_hop}
use Rattle.print_ceilings.proofs.RowRoom.{has_room, HasRoom}
use Rattle.print_ceilings.proofs.RowSteps.{row_begun, row_joined, rows_kept, rows_more}
use Rattle.print_ceilings.proofs.waits.adding.by_kind.Goals as goal
use Rattle.print_ceilings.proofs.waits.adding.by_kind.Goals.{in-Some-get, in-None}

pub loop-number-preserved-in_default : goal.loop-number-preserved-in_default
loop-number-preserved-in_default c =
    let times = entry_in c.args.times.now in
    let pieces = pieces_of c.args.walk.now in
    let often = often_of c.args.walk.now in
    let here = at_here c.pieces-piece-items.result.now pieces c.loop-number.number c.piece-item.result
    c.pieces-piece-items.ensures c.loop-number-test.true c.piece-item.is in
    record {
      found = rows_kept times pieces often c.requires.right.1.1.1.each.1 c.loop-number.number c.piece-item.result here
          (no_hop c.piece-item.result (sym c.in_default.is ∙ c.hop_in.ensures)) (get same_kind c.loop-number.rows)
          c.loop-number.invariant.found;
      apart = c.loop-number.invariant.apart;
    }

-- ---- where it is a hop

pub row_of_piece-alone-requires-clause-here : goal.row_of_piece-alone-requires-clause-here
row_of_piece-alone-requires-clause-here c =
    hop_here c.pieces-piece-items.result.now (pieces_of c.args.walk.now) c.loop-number.number c.piece-item.result
    c.in-Some.one c.hop_in.result c.pieces-piece-items.ensures c.loop-number-test.true c.piece-item.is c.in-Some.is
    c.hop_in.ensures

-- it is of its kind
so : (one : Placed) → is_of (kind_of one) (seen_placed one) ≡ true
so one = same_kind_equiv.refl (kind_of one)

-- the row that is there has room for it
room : (c : goal.After-alone-1) → HasRoom c.in-Some-get.before.now c.row_of_piece-alone.result
room c =
    let r = c.requires.right in
    let one = c.in-Some.one in
    let kind = c.kind_of-kind.result in
    let here = hop_here c.pieces-piece-items.result.now (pieces_of c.args.walk.now) c.loop-number.number c.piece-item.result
    one c.hop_in.result c.pieces-piece-items.ensures c.loop-number-test.true c.piece-item.is c.in-Some.is c.hop_in.ensures in
    let found : Some c.in-Some-get.before.now ≡ get same_kind c.loop-number.rows (kind_of one) =
    get_same c.loop-number.rows kind (Some c.in-Some-get.before.now) c.in-Some-get.ensures.value
    ∙ ap (get same_kind c.loop-number.rows) c.kind_of-kind.ensures in
    has_room r.0 c.args.times.now r.1.0 c.args.walk.now r.1.1 c.loop-number.number one here (is_of (kind_of one)) (so one)
    c.in-Some-get.before.now c.row_of_piece-alone.result c.requires.early
    (subst (IsRowOf (entry_in c.args.times.now) (pieces_of c.args.walk.now) (often_of c.args.walk.now)
    c.loop-number.number (is_of (kind_of one))) (sym found) (c.loop-number.invariant.found (kind_of one)))
    c.row_of_piece-alone.ensures

pub plus-row-requires-clause-visits : goal.plus-row-requires-clause-visits
plus-row-requires-clause-visits c = (room c).visits

pub plus-row-requires-clause-time : goal.plus-row-requires-clause-time
plus-row-requires-clause-time c = (room c).time

pub plus-row-requires-clause-instruction : goal.plus-row-requires-clause-instruction
plus-row-requires-clause-instruction c = (room c).instruction

pub plus-row-requires-clause-operand : goal.plus-row-requires-clause-operand
plus-row-requires-clause-operand c = (room c).operand

pub loop-number-preserved : goal.loop-number-preserved
loop-number-preserved c =
    let times = entry_in c.args.times.now in
    let pieces = pieces_of c.args.walk.now in
    let often = often_of c.args.walk.now in
    let each = c.requires.right.1.1.1.each.1 in
    let n = c.loop-number.number in
    let one = c.in-Some.one in
    let kind = c.kind_of-kind.result in
    let old = c.loop-number.rows in
    let new = c.insert.new.self in
    let is = is_of (kind_of one) in
    let is_here = hop_here c.pieces-piece-items.result.now (pieces_of c.args.walk.now) c.loop-number.number c.piece-item.result
    c.in-Some.one c.hop_in.result c.pieces-piece-items.ensures c.loop-number-test.true c.piece-item.is c.in-Some.is
    c.hop_in.ensures in
    let at : (found : Option KindRow) → found ≡ get same_kind old kind → IsRowOf times pieces often n is found =
    λ found same. subst (IsRowOf times pieces often n is) (sym (same ∙ ap (get same_kind old) c.kind_of-kind.ensures))
    (c.loop-number.invariant.found (kind_of one)) in
    let row : IsRow times pieces often (n + 1) is c.match-get.row =
    elim c.match-get.branch [
      | in-Some-get w ↦
          let before = w.in-Some-get.before.now in
          subst (IsRow times pieces often (n + 1) is) (sym w.row-is)
          (row_joined times pieces often each n is one is_here (so one) c.row_of_piece-alone.result
          c.row_of_piece-alone.ensures before w.plus-row.result
          (at (Some before) (get_same old kind (Some before) w.in-Some-get.ensures.value))
          w.plus-row.ensures.number w.plus-row.ensures.told w.plus-row.ensures.angle w.plus-row.ensures.visits
          w.plus-row.ensures.time w.plus-row.ensures.instruction w.plus-row.ensures.operand)
      | in-None w ↦
          subst (IsRow times pieces often (n + 1) is) (sym w.row-is)
          (row_begun times pieces often each n is one is_here (so one) c.row_of_piece-alone.result
          c.row_of_piece-alone.ensures (at None (get_same old kind None w.in-None.ensures.value)))
    ] in
    record {
      found =
          rows_more times pieces often each n one is_here c.match-get.row (get same_kind old) (get same_kind new)
          c.loop-number.invariant.found row
          (subst (λ (k : Kind). (other : Kind) → get same_kind new other
          ≡ cond (same_kind k other) (Some c.match-get.row) (get same_kind old other)) c.kind_of-kind.ensures
          (update_same old new kind c.match-get.row c.in_ok-insert.ensures.updates.0));
      apart = unique_same new c.in_ok-insert.ensures.unique;
    }

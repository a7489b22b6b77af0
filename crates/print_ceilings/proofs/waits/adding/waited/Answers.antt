-- Of waited: for each piece that is a hop what its hop waits is added, as often as it comes.
use Rattle.std.proofs.Common.{◌∙◌, ◌*◌, ◌+◌, ℕ, ap, arith, sym}
use Rattle.std.specs.Prelude.{slice_index}
use Rattle.base_notes.specs.Entries.{entry_in}
use Rattle.ceiling_rounds.specs.InRounds.{often_of, pieces_of}
use Rattle.print_ceilings.proofs.PieceAt.{at_here, hop_here, no_hop}
use Rattle.print_ceilings.proofs.RowRoom.{has_whole_room, HasWholeRoom}
use Rattle.print_ceilings.proofs.WholeWaits.{waited_kept, waited_more}
use Rattle.print_ceilings.proofs.waits.adding.waited.Goals as goal

pub loop-number-preserved-in_default : goal.loop-number-preserved-in_default
loop-number-preserved-in_default c =
    let pieces = pieces_of c.args.walk.now in
    let here = at_here c.pieces-piece-items.result.now pieces c.loop-number.number c.piece-item.result
    c.pieces-piece-items.ensures c.loop-number-test.true c.piece-item.is in
    waited_kept (entry_in c.args.times.now) pieces (often_of c.args.walk.now) c.requires.right.1.1.1.each.1
    c.loop-number.number c.piece-item.result here (no_hop c.piece-item.result (sym c.in_default.is ∙ c.hop_in.ensures))
    c.loop-number.waited c.loop-number.invariant

pub spent_by-spent-requires-clause-here : goal.spent_by-spent-requires-clause-here
spent_by-spent-requires-clause-here c =
    hop_here c.pieces-piece-items.result.now (pieces_of c.args.walk.now) c.loop-number.number c.piece-item.result
    c.in-Some.one c.hop_in.result c.pieces-piece-items.ensures c.loop-number-test.true c.piece-item.is c.in-Some.is
    c.hop_in.ensures

-- what is so far leaves room for it
room : (c : goal.After-often) → HasWholeRoom c.loop-number.waited c.spent_by-spent.result
    (slice_index (often_of c.args.walk.now) c.loop-number.number)
room c =
    let r = c.requires.right in
    let here = hop_here c.pieces-piece-items.result.now (pieces_of c.args.walk.now) c.loop-number.number
    c.piece-item.result c.in-Some.one c.hop_in.result c.pieces-piece-items.ensures c.loop-number-test.true c.piece-item.is
    c.in-Some.is c.hop_in.ensures in
    has_whole_room r.0 c.args.times.now r.1.0 c.args.walk.now r.1.1 c.loop-number.number c.in-Some.one here
    c.loop-number.waited c.spent_by-spent.result c.requires.early c.loop-number.invariant
    c.spent_by-spent.ensures.instruction c.spent_by-spent.ensures.operand c.spent_by-spent.ensures.cards

pub with-waited-requires-clause-instruction : goal.with-waited-requires-clause-instruction
with-waited-requires-clause-instruction c =
    omega (arith, (room c).instruction, ap (λ (n : ℕ). n * c.spent_by-spent.result.instruction) c.often.ensures)

pub with-waited-requires-clause-operand : goal.with-waited-requires-clause-operand
with-waited-requires-clause-operand c =
    omega (arith, (room c).operand, ap (λ (n : ℕ). n * c.spent_by-spent.result.operand) c.often.ensures)

pub with-waited-requires-clause-cards : goal.with-waited-requires-clause-cards
with-waited-requires-clause-cards c =
    omega (arith, (room c).cards, ap (λ (n : ℕ). n * c.spent_by-spent.result.cards) c.often.ensures)

pub loop-number-preserved : goal.loop-number-preserved
loop-number-preserved c =
    let pieces = pieces_of c.args.walk.now in
    let often = often_of c.args.walk.now in
    let before = c.loop-number.waited in
    let spent = c.spent_by-spent.result in
    let here = hop_here c.pieces-piece-items.result.now pieces c.loop-number.number c.piece-item.result c.in-Some.one
    c.hop_in.result c.pieces-piece-items.ensures c.loop-number-test.true c.piece-item.is c.in-Some.is c.hop_in.ensures in
    waited_more (entry_in c.args.times.now) pieces often c.requires.right.1.1.1.each.1 c.loop-number.number c.in-Some.one
    here before c.with-waited.result spent c.loop-number.invariant c.spent_by-spent.ensures.instruction
    c.spent_by-spent.ensures.operand c.spent_by-spent.ensures.cards
    (c.with-waited.ensures.instruction ∙ ap (λ (n : ℕ). before.instruction + n * spent.instruction) c.often.ensures)
    (c.with-waited.ensures.operand ∙ ap (λ (n : ℕ). before.operand + n * spent.operand) c.often.ensures)
    (c.with-waited.ensures.cards ∙ ap (λ (n : ℕ). before.cards + n * spent.cards) c.often.ensures)

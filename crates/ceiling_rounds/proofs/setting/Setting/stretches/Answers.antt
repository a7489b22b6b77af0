use Rattle.std.proofs.Common.{◌+◌, take, sym, subst, []}
use Rattle.flow_graph.specs.SettingOf.{setting}
use Rattle.flow_walks.specs.Pieces.{spelled_behind}
use Rattle.ceiling_rounds.specs.Stretch.{AreStretches}
use Rattle.ceiling_rounds.proofs.Wholes.{stretches_more}
use Rattle.ceiling_rounds.proofs.setting.Setting.stretches.Goals as goal

pub loop-piece-preserved : goal.loop-piece-preserved
loop-piece-preserved c =
    let own = c.args.self.now in
    let g = setting own.deck.now own.times.now own.notes.now in
    let pieces = c.args.pieces.now in
    let k = c.loop-piece.piece-index in
    let before = spelled_behind [] (take k pieces) in
    let made = rw c.in-Some.is at c.in_ok-stretch.ensures in
    let come =
    made before (subst (AreStretches g before) (sym c.deref.ensures.value) c.loop-piece.invariant) in
    subst (AreStretches g (spelled_behind [] (take (k + 1) pieces))) (sym c.in_ok-push.ensures.items)
    (stretches_more g pieces k c.piece-item.result c.loop-piece.stretches.items c.in-Some.stretch
    c.loop-piece-test.true c.piece-item.is c.loop-piece.invariant come)

use Rattle.std.proofs.Common.{◌≡◌, ◌-◌, List, [], Some, length, sym, ap, ◌∙◌, subst, map}
use Rattle.std.specs.Prelude.{slice_get}
use Rattle.flow_graph.specs.SettingOf.{setting}
use Rattle.flow_walks.specs.declared.piece.Piece.{Piece}
use Rattle.flow_walks.specs.Pieces.{spelled_behind}
use Rattle.ceiling_rounds.specs.declared.stretch.Stretch.{Stretch}
use Rattle.ceiling_rounds.specs.Change.{passes_by}
use Rattle.ceiling_rounds.specs.InRounds.{AreTold}
use Rattle.ceiling_rounds.specs.Order.{AreInOrder}
use Rattle.ceiling_rounds.specs.Stretch.{AreStretches}
use Rattle.ceiling_rounds.proofs.Wholes.{whole_walk}
use Rattle.ceiling_rounds.proofs.setting.Setting.weigh.Goals as goal

pub returns-clause-right : goal.returns-clause-right
returns-clause-right c =
    let own = c.args.self.now in
    let g = setting own.deck.now own.times.now own.notes.now in
    let pieces = c.args.pieces.items in
    let stretches = c.in-Some.stretches.items in
    let whole = c.in-Some-last.whole.now in
    let made = rw c.in-Some.is at c.in_ok-stretches.ensures in
    let are : AreStretches g (spelled_behind [] pieces) stretches =
    subst (λ (ps : List Piece). AreStretches g (spelled_behind [] ps) stretches) c.deref.ensures.value made in
    let last : slice_get stretches (length stretches - 1) ≡ Some whole =
    subst (λ (ss : List Stretch). slice_get ss (length ss - 1) ≡ Some whole) c.deref-2.ensures.value
    (sym c.in-Some-last.ensures.value) in
    let all : c.in_ok-passes_of.field-0.items ≡ map passes_by whole.changes.items =
    c.in_ok-passes_of.ensures ∙ ap (map passes_by) c.deref-5.ensures.value in
    let order : AreInOrder pieces =
    subst AreInOrder (c.in_ok-of.ensures ∙ c.deref-else-not-is_from_start.ensures.value)
    (c.are_in_order.ensures c.if-not-are_in_order.false) in
    let told = rw c.in-Some-2.is at c.in_ok-told.ensures in
    let lasting = c.in-Some-2.told.lasting.items in
    let often = c.in-Some-2.told.often.items in
    let near : AreStretches g (spelled_behind [] c.deref-3.result.now) c.deref-4.result.now =
    subst (λ (ps : List Piece). AreStretches g (spelled_behind [] ps) c.deref-4.result.now)
    (sym c.deref-3.ensures.value)
    (subst (AreStretches g (spelled_behind [] pieces)) (sym c.deref-4.ensures.value) are) in (
      whole_walk g pieces stretches whole c.in_ok-passes_of.field-0.items are last
          (c.is_from_start.ensures c.if-not-is_from_start.false) all order,
      subst (λ (ps : List Piece). AreTold g.times ps lasting often) c.deref-3.ensures.value (told g near),
    )

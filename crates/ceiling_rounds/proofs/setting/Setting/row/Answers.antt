use Rattle.std.proofs.Common.{arith}
use Rattle.std.proofs.Common.{◌≡◌, ℕ, ◌+◌, List, ◌∷◌, ◌++◌, Some, get_or, take, sym, ap, ◌∙◌, subst, []}
use Rattle.std.specs.Prelude.{flat_map, length, slice_get}
use Rattle.std.proofs.lemmas.Bool.{ltb-true}
use Rattle.std.proofs.lemmas.Option.{slice_get-get_or}
use Rattle.std.proofs.lemmas.Grind.{flat_map-append, common_steps}
use Rattle.std.proofs.lemmas.List.{append-nil, take_more}
use Rattle.flow_graph.specs.SettingOf.{setting}
use Rattle.flow_walks.specs.Pieces.{spelled_at, PlacedHop}
use Rattle.ceiling_rounds.specs.Stretch.{span_of, ComeTo}
use Rattle.ceiling_rounds.proofs.setting.Setting.row.Goals as goal

pub loop-number-preserved : goal.loop-number-preserved
loop-number-preserved c before are =
    let own = c.args.self.now in
    let g = setting own.deck.now own.times.now own.notes.now in
    let pieces = c.args.pieces.now in
    let k = c.loop-number.number-index in
    let number : ℕ = get_or pieces k 0 in
    let made = rw c.in-Some-2.is at c.in_ok-longer.ensures in
    let there : slice_get c.args.stretches.now number ≡ Some c.in-Some-get.next.now =
    slice_get-get_or c.args.stretches.now number c.in-Some-get.next.now
    (ltb-true number (length c.args.stretches.now) (sym c.in-Some-get.ensures.lookup.0))
    ∙ ap Some (sym c.in-Some-get.ensures.lookup.1) in
    let one = are.come number c.in-Some-get.next.now there in
    let both =
    made g (flat_map (spelled_at before) (take k pieces)) (spelled_at before number)
    (c.loop-number.invariant before are) one in
    let more : flat_map (spelled_at before) (take k pieces) ++ spelled_at before number
    ≡ flat_map (spelled_at before) (take (k + 1) pieces) =
    sym (
    ap (flat_map (spelled_at before)) (take_more pieces k 0 c.loop-number-test.true)
    ∙ flat_map-append (spelled_at before) (take k pieces) (number ∷ [])
    ∙ ap (λ (hs : List PlacedHop). flat_map (spelled_at before) (take k pieces) ++ hs)
    (append-nil (spelled_at before number))
    ) in
    subst (λ (hs : List PlacedHop). ComeTo g hs (span_of c.in-Some-2.longer)) more both

pub returns : goal.returns
returns c = grind (arith, common_steps)

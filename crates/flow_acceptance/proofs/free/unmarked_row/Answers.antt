-- Of unmarked_row: the row is that of the targets so far. One more target adds nothing where its
-- edge has a mark or no step goes along it, and else the index of the node that it leads to.
use Rattle.std.proofs.Common.{◌≡◌, ℕ, ◌+◌, true, false, List, [], ◌∷◌, ◌++◌, Option, Some, take, sym, ap, ◌∙◌, subst}
use Rattle.std.specs.Prelude.{is_some, slice_get}
use Rattle.std.proofs.lemmas.List.{take_all}
use Rattle.std.proofs.lemmas.Option.{same_Some}
use Rattle.base_words.specs.declared.location.Location.{Location}
use Rattle.base_notes.specs.declared.notes.mark.Mark.{Mark}
use Rattle.base_notes.specs.Allowed.{Notes}
use Rattle.base_notes.specs.Marks.{mark_on}
use Rattle.flow_graph.specs.Executed.{onward}
use Rattle.flow_graph.specs.Flow.{nodes_of, notes_of}
use Rattle.flow_graph.specs.Hops.{Node}
use Rattle.flow_graph.proofs.Founds.{numbers, numbers_more}
use Rattle.flow_acceptance.specs.Free.{IsUnmarkedRow}
use Rattle.flow_acceptance.proofs.FreeRows.{row_marked, row_absent, row_more}
use Rattle.flow_acceptance.proofs.free.unmarked_row.Goals as goal

pub loop-onto-preserved-then-is_some : goal.loop-onto-preserved-then-is_some
loop-onto-preserved-then-is_some c from at =
    let flow = c.args.flow.now in
    let targets = c.args.targets.now in
    let k = c.loop-onto.onto-index in
    let onto = c.onto-item.result in
    let here : c.location-from.ensures.0 ≡ from = same_Some c.location-from.ensures.0 from (sym c.location-from.ensures.1 ∙ at) in
    let marks : c.marks-marks.result.now ≡ (notes_of flow).marks =
    c.marks-marks.ensures.all ∙ ap (λ (n : Notes). n.marks) c.notes.ensures in
    let place : c.location-from.result.number ≡ from.place =
    c.location-from.ensures.2 ∙ ap (λ (n : Node). n.place) here in
    let marked : is_some (mark_on (notes_of flow).marks from.place onto.number) ≡ true =
    ap (λ (p : ℕ). is_some (mark_on (notes_of flow).marks p onto.number)) (sym place)
    ∙ sym (ap (λ (found : Option ℕ). is_some found)
    (c.on_edge.ensures.value
    ∙ ap (λ (marks : List Mark). mark_on marks c.location-from.result.number onto.number) marks))
    ∙ sym c.is_some.ensures ∙ c.if-is_some.true in
    subst (λ (all : List ℕ). IsUnmarkedRow (notes_of flow) (nodes_of flow) all from c.loop-onto.row.items)
    (sym (numbers_more targets k onto c.loop-onto-test.true c.onto-item.is))
    (row_marked (notes_of flow) (nodes_of flow) (numbers (take k targets)) from c.loop-onto.row.items onto.number
    (c.loop-onto.invariant from at) marked)

pub loop-onto-preserved-in_default : goal.loop-onto-preserved-in_default
loop-onto-preserved-in_default c from at =
    let flow = c.args.flow.now in
    let targets = c.args.targets.now in
    let k = c.loop-onto.onto-index in
    let onto = c.onto-item.result in
    subst (λ (all : List ℕ). IsUnmarkedRow (notes_of flow) (nodes_of flow) all from c.loop-onto.row.items)
    (sym (numbers_more targets k onto c.loop-onto-test.true c.onto-item.is))
    (row_absent (notes_of flow) (nodes_of flow) (numbers (take k targets)) from c.loop-onto.row.items onto.number
    (c.loop-onto.invariant from at) (λ next there. c.in_default.ensures.none from next at there))

pub loop-onto-preserved : goal.loop-onto-preserved
loop-onto-preserved c from at =
    let flow = c.args.flow.now in
    let nodes = nodes_of flow in
    let targets = c.args.targets.now in
    let k = c.loop-onto.onto-index in
    let onto = c.onto-item.result in
    let here : c.location-from.ensures.0 ≡ from = same_Some c.location-from.ensures.0 from (sym c.location-from.ensures.1 ∙ at) in
    let marks : c.marks-marks.result.now ≡ (notes_of flow).marks =
    c.marks-marks.ensures.all ∙ ap (λ (n : Notes). n.marks) c.notes.ensures in
    let place : c.location-from.result.number ≡ from.place =
    c.location-from.ensures.2 ∙ ap (λ (n : Node). n.place) here in
    let unmarked : is_some (mark_on (notes_of flow).marks from.place onto.number) ≡ false =
    ap (λ (p : ℕ). is_some (mark_on (notes_of flow).marks p onto.number)) (sym place)
    ∙ sym (ap (λ (found : Option ℕ). is_some found)
    (c.on_edge.ensures.value
    ∙ ap (λ (marks : List Mark). mark_on marks c.location-from.result.number onto.number) marks))
    ∙ sym c.is_some.ensures ∙ c.if-is_some.false in
    let found = c.in-Some.ensures.found in
    let own : found.0 ≡ from = same_Some found.0 from (sym found.2 ∙ at) in
    subst (λ (row : List ℕ). IsUnmarkedRow (notes_of flow) nodes (numbers (take (k + 1) targets)) from row)
    (sym c.in_ok-push.ensures.items)
    (subst (λ (all : List ℕ). IsUnmarkedRow (notes_of flow) nodes all from (c.loop-onto.row.items ++ c.in-Some.index ∷ []))
    (sym (numbers_more targets k onto c.loop-onto-test.true c.onto-item.is))
    (row_more (notes_of flow) nodes (numbers (take k targets)) from c.loop-onto.row.items onto.number
    (c.loop-onto.invariant from at) c.in-Some.index found.1 c.in-Some.ensures.different found.3
    (subst (λ (n : Node). onward (notes_of flow) n onto.number ≡ found.1 ∷ []) own found.4) unmarked))

pub returns : goal.returns
returns c =
    let flow = c.args.flow.now in
    subst (λ (all : List Location). (from : Node) → slice_get (nodes_of flow) c.args.node ≡ Some from
    → IsUnmarkedRow (notes_of flow) (nodes_of flow) (numbers all) from c.loop-onto.row.items)
    (take_all c.loop-onto.onto-index c.args.targets.now c.loop-onto-test.false) c.loop-onto.invariant

-- Of onward_row: the row is that of the targets so far. One more target adds nothing where no step
-- goes to it, and else the index of the node that it leads to.
use Rattle.std.proofs.Common.{◌≡◌, ℕ, ◌+◌, List, ◌∷◌, ◌++◌, Some, take, sym, ◌∙◌, subst, []}
use Rattle.std.specs.Prelude.{slice_get}
use Rattle.std.proofs.lemmas.List.{take_all}
use Rattle.std.proofs.lemmas.Option.{same_Some}
use Rattle.base_words.specs.declared.location.Location.{Location}
use Rattle.flow_graph.specs.Executed.{onward}
use Rattle.flow_graph.specs.Flow.{nodes_of}
use Rattle.flow_graph.specs.Hops.{Node}
use Rattle.flow_graph.proofs.Founds.{numbers, numbers_more}
use Rattle.flow_loops.specs.Links.{IsOnwardRow}
use Rattle.flow_loops.proofs.LinkRows.{row_absent, row_more}
use Rattle.flow_loops.proofs.links.onward_row.Goals as goal

pub loop-onto-preserved-in_default : goal.loop-onto-preserved-in_default
loop-onto-preserved-in_default c from at =
    let flow = c.args.flow.now in
    let targets = c.args.targets.now in
    let k = c.loop-onto.onto-index in
    let onto = c.onto-item.result in
    subst (λ (all : List ℕ). IsOnwardRow flow.notes.now (nodes_of flow) all from c.loop-onto.row.items)
    (sym (numbers_more targets k onto c.loop-onto-test.true c.onto-item.is))
    (row_absent flow.notes.now (nodes_of flow) (numbers (take k targets)) from c.loop-onto.row.items onto.number
    (c.loop-onto.invariant from at) (λ next there. c.in_default.ensures.none from next at there))

pub loop-onto-preserved : goal.loop-onto-preserved
loop-onto-preserved c from at =
    let flow = c.args.flow.now in
    let nodes = nodes_of flow in
    let targets = c.args.targets.now in
    let k = c.loop-onto.onto-index in
    let onto = c.onto-item.result in
    let found = c.in-Some.ensures.found in
    let own : found.0 ≡ from = same_Some found.0 from (sym found.2 ∙ at) in
    subst (λ (row : List ℕ). IsOnwardRow flow.notes.now nodes (numbers (take (k + 1) targets)) from row)
    (sym c.in_ok-push.ensures.items)
    (subst (λ (all : List ℕ). IsOnwardRow flow.notes.now nodes all from (c.loop-onto.row.items ++ c.in-Some.index ∷ []))
    (sym (numbers_more targets k onto c.loop-onto-test.true c.onto-item.is))
    (row_more flow.notes.now nodes (numbers (take k targets)) from c.loop-onto.row.items onto.number
    (c.loop-onto.invariant from at) c.in-Some.index found.1 c.in-Some.ensures.different found.3
    (subst (λ (n : Node). onward flow.notes.now n onto.number ≡ found.1 ∷ []) own found.4)))

pub returns : goal.returns
returns c =
    let flow = c.args.flow.now in
    subst (λ (all : List Location). (from : Node) → slice_get (nodes_of flow) c.args.node ≡ Some from
    → IsOnwardRow flow.notes.now (nodes_of flow) (numbers all) from c.loop-onto.row.items)
    (take_all c.loop-onto.onto-index c.args.targets.now c.loop-onto-test.false) c.loop-onto.invariant

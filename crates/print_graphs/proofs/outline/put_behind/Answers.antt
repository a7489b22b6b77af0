use Rattle.std.proofs.Common.{◌≡◌, ℕ, ◌<◌, false, true, List, [], ◌∷◌, Some, map, ap, ◌∙◌, subst}
use Rattle.std.proofs.lemmas.List.{map-append}
use Rattle.std.proofs.lemmas.Option.{get_or_from_slice_get}
use Rattle.std.proofs.lemmas.Result.{on_ok_weaker}
use Rattle.std.specs.Prelude.{slice_get}
use Rattle.print_graphs.specs.declared.node.Node.{Node}
use Rattle.print_graphs.specs.GraphOf.{edges_in, node_of}
use Rattle.print_graphs.specs.Outline.{join}
use Rattle.print_graphs.proofs.Outlines.{put_last, put_there, straight}
use Rattle.print_graphs.proofs.outline.put_behind.Goals as goal

pub returns-in-Some : goal.returns-in-Some
returns-in-Some c =
    let marks = c.args.marks.now in
    let loops = edges_in c.args.loops.now in
    let word = node_of c.args.word in
    let boxes = c.args.boxes.now.items in
    let index = c.in-Some.index in
    let found : (one : Node) × (slice_get boxes index ≡ Some one) × (straight marks loops word one ≡ true) =
    subst (λ (all : List Node). (one : Node) × (slice_get all index ≡ Some one) × (straight marks loops word one ≡ true))
    c.deref.ensures.value c.in-Some.ensures.found in
    let first : (k : ℕ) (one : Node) → k < index → slice_get boxes k ≡ Some one → straight marks loops word one ≡ false =
    subst (λ (all : List Node). (k : ℕ) (one : Node) → k < index → slice_get all k ≡ Some one
    → straight marks loops word one ≡ false) c.deref.ensures.value c.in-Some.ensures.first in
    let there : c.index_mut.result.now ≡ found.0 =
    c.index_mut.ensures.value ∙ get_or_from_slice_get boxes index found.0 c.index_mut.result.now found.1 in
    on_ok_weaker c.join.result (λ same. put_there marks loops word boxes index found.0 c.join.new.self found.1 found.2
    first (same ∙ ap (λ (one : Node). join (node_of one) word) there)) c.join.ensures

pub returns-in_ok-push-in-None : goal.returns-in_ok-push-in-None
returns-in_ok-push-in-None c =
    let marks = c.args.marks.now in
    let loops = edges_in c.args.loops.now in
    let word = node_of c.args.word in
    let boxes = c.args.boxes.now.items in
    let none : (k : ℕ) (one : Node) → slice_get boxes k ≡ Some one → straight marks loops word one ≡ false =
    subst (λ (all : List Node). (k : ℕ) (one : Node) → slice_get all k ≡ Some one → straight marks loops word one ≡ false)
    c.deref.ensures.value c.in-None.ensures.none in
    ap (map node_of) c.in_ok-push-in-None.ensures.items ∙ map-append node_of boxes (c.args.word ∷ [])
    ∙ put_last marks loops word boxes none

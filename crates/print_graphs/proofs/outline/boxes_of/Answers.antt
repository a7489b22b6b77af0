-- Of boxes_of: each word is put into the boxes in its turn, and it is known whether it may follow
-- another.
use Rattle.std.proofs.Common.{arith}
use Rattle.std.proofs.lemmas.Grind.{common_steps}
use Rattle.std.proofs.Common.{◌≡◌, ℕ, Bool, List, [], ◌∷◌, ◌++◌, map, drop, get_or, ap, sym, ◌∙◌}
use Rattle.std.specs.Prelude.{fold, if◌then◌else◌}
use Rattle.std.specs.Vec.Iter.{into_iter_items}
use Rattle.print_graphs.specs.declared.node.Node as held
use Rattle.print_graphs.specs.Graph.{Node}
use Rattle.print_graphs.specs.GraphOf.{edges_in, node_of}
use Rattle.print_graphs.specs.Outline.{may_follow, put, put_behind}
use Rattle.print_graphs.proofs.Outlines.{first_left}
use Rattle.print_graphs.proofs.outline.boxes_of.Goals as goal

pub loop-index-preserved : goal.loop-index-preserved
loop-index-preserved c =
    let marks = c.args.marks.now in
    let loops = edges_in c.args.loops.now in
    let start = c.args.start.number in
    let words : List Node = map node_of c.args.words.items in
    let before : List Node = map node_of c.loop-index.boxes.items in
    let word = node_of c.in-Some.word in
    let rest = into_iter_items c.next.new.self.iter in
    let k = c.loop-index.index-iterator.count in
    let follows = c.in_ok-follows.follows.items in
    let steps = c.in-Some.ensures.steps in
    let left : may_follow start words word ∷ map (may_follow start words) (map node_of rest) ≡ drop k follows =
    sym (ap (λ (all : List held.Node). map (may_follow start words) (map node_of all)) steps.0.0)
    ∙ c.loop-index.invariant.known in
    let flag : c.index.result.now ≡ may_follow start words word =
    c.index.ensures ∙ ap (λ (n : ℕ). get_or follows n c.index.result.now) steps.1
    ∙ (first_left (map (may_follow start words) (map node_of rest)) follows (may_follow start words word)
    c.index.result.now k left).0 in
    let grown : map node_of c.put.new.boxes.items ≡ put marks loops start words before word =
    c.in_ok-put.ensures
    ∙ ap (λ (t : Bool). if t then put_behind marks loops before word else (before ++ word ∷ [])) flag in
    record {
      so_far =
          ap (λ (boxes : List Node). fold (put marks loops start words) boxes (map node_of rest)) grown
          ∙ sym (ap (λ (all : List held.Node). fold (put marks loops start words) before (map node_of all)) steps.0.0)
          ∙ c.loop-index.invariant.so_far;
      known =
          (first_left (map (may_follow start words) (map node_of rest)) follows (may_follow start words word)
          (may_follow start words word) k left).1
          ∙ ap (λ (n : ℕ). drop n follows) (sym steps.2);
    }

pub index-requires : goal.index-requires
index-requires c = grind (arith, common_steps)

pub returns : goal.returns
returns c = grind (arith, common_steps)

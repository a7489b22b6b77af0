use Rattle.std.proofs.Common.{◌≡◌, map, drop}
use Rattle.std.specs.Prelude.{fold}
use Rattle.std.specs.Vec.Iter.{into_iter_items}
use Rattle.print_graphs.specs.GraphOf.{edges_in, node_of}
use Rattle.print_graphs.specs.Outline.{may_follow, outlined, put}
use Rattle.print_graphs.proofs.outline.boxes_of.Given as goal

-- what is there, and what the words that are left make of it, is what all words make; of each of
-- these it is known whether it may follow another
abbrev pub invariant-loop-index : goal.invariant-loop-index
invariant-loop-index l = record {
  so_far : fold (put l.marks (edges_in l.loops) l.fn.start.number (map node_of l.fn.words.items))
      (map node_of l.boxes.items) (map node_of (into_iter_items l.index-iterator.iter))
      ≡ outlined l.marks (edges_in l.loops) l.fn.start.number (map node_of l.fn.words.items);
  known : map (may_follow l.fn.start.number (map node_of l.fn.words.items)) (map node_of (into_iter_items l.index-iterator.iter))
      ≡ drop l.index-iterator.count l.follows.items;
}

use Rattle.std.proofs.Common.{◌≡◌, map, take}
use Rattle.print_graphs.specs.GraphOf.{node_of}
use Rattle.print_graphs.specs.Outline as said
use Rattle.print_graphs.proofs.outline.followers.Given as goal

-- of the words so far it is said
abbrev pub invariant-loop-word : goal.invariant-loop-word
invariant-loop-word l =
    l.follows.items
    ≡ map (said.may_follow l.fn.start.number (map node_of l.words)) (map node_of (take l.word-index l.words))

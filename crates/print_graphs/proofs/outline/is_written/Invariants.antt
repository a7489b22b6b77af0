use Rattle.std.proofs.Common.{◌≡◌, map, drop}
use Rattle.print_graphs.specs.GraphOf.{node_of}
use Rattle.print_graphs.specs.Outline as said
use Rattle.print_graphs.proofs.outline.is_written.Given as goal

-- none of the words so far writes it
abbrev pub invariant-loop-word : goal.invariant-loop-word
invariant-loop-word l =
    said.is_written (map node_of (drop l.word-index l.words)) l.fn.location.number
    ≡ said.is_written (map node_of l.words) l.fn.location.number

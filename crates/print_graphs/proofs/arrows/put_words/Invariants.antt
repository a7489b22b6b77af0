use Rattle.std.proofs.Common.{flat_map, take}
use Rattle.flow_graph.specs.Found.{places_of}
use Rattle.print_lines.specs.Stands.{Passes}
use Rattle.print_graphs.specs.GraphText.{written_text}
use Rattle.print_graphs.proofs.arrows.put_words.Given as goal

-- the lines of the words so far were put
abbrev pub invariant-loop-word : goal.invariant-loop-word
invariant-loop-word g l =
    Passes (g.O.Output.device l.fn.writer) l.fn.sheet (g.O.Output.device l.writer) l.sheet
    (flat_map (written_text l.from.number) (take l.word-index (places_of l.words)))

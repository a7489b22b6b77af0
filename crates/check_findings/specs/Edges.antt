-- Which edges the flow graph has, and the edges of marks. A mark is here the list of its edges.
use Rattle.std.specs.Prelude.{ℕ, ◌&&◌, Bool, List, flat_map, map, Option}
use Rattle.base_words.specs.declared.word.Word.{Word}
use Rattle.base_notes.specs.Allowed.{Notes}
use Rattle.base_notes.specs.Marks.{edges_of}
use Rattle.flow_graph.specs.Executed.{successors}
use Rattle.flow_graph.specs.Hops.{Node}
use Rattle.flow_graph.specs.Taken.{is_among, is_taken}

-- Whether the flow graph with these nodes has a link between the two locations: some instruction
-- goes on from the one to the other, and from some node a step may go so.
abbrev pub has_edge : (ℕ → Option Word) → Notes → List Node → ℕ → ℕ → Bool
has_edge loads notes nodes from onto =
    is_among (successors loads notes from) onto && is_taken notes nodes from onto

-- the marks of notes, in order
abbrev pub marks_of : Notes → List (List (ℕ × ℕ))
marks_of notes = map edges_of notes.marks

-- their edges
abbrev pub marked_edges : Notes → List (ℕ × ℕ)
marked_edges notes = flat_map edges_of notes.marks

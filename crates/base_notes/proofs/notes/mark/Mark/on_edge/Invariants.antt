use Rattle.std.proofs.Common.{◌≡◌, drop}
use Rattle.base_notes.specs.Marks.{mark_from, mark_on}
use Rattle.base_notes.proofs.notes.mark.Mark.on_edge.Given as goal

-- none so far is on the edge
abbrev pub invariant-loop-place : goal.invariant-loop-place
invariant-loop-place l =
    mark_from l.place (drop l.place l.marks) l.from.number l.onto.number ≡ mark_on l.marks l.from.number l.onto.number

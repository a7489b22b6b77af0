use Rattle.std.proofs.Common.{◌≡◌, map, take}
use Rattle.base_notes.specs.Marks.{edges_of}
use Rattle.check_findings.proofs.edges.marks_of.Given as goal

-- the marks so far
abbrev pub invariant-loop-mark : goal.invariant-loop-mark
invariant-loop-mark l = l.marks.items ≡ map edges_of (take l.mark-index l.flow.notes.now.marks)

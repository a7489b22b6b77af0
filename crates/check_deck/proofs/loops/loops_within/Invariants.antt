use Rattle.std.proofs.Common.{◌≡◌, ◌++◌, [], map, take}
use Rattle.base_notes.specs.EdgeOf.{edge_of}
use Rattle.check_findings.specs.FindingOf.{seen}
use Rattle.check_findings.specs.Edges.{marks_of}
use Rattle.check_deck.specs.FindingsOf.{IsInsideIn}
use Rattle.check_deck.specs.Insides.{new_marks, AreToldInside, IsToldBehind}
use Rattle.check_deck.proofs.loops.loops_within.Given as goal

-- the loops of the edges so far are listed, and the marks that come with these stand behind the notes'
abbrev pub invariant-loop-edge : goal.invariant-loop-edge
invariant-loop-edge l = record {
  before : l.before.items ≡ marks_of l.nesting.flow.now.notes.now
      ++ new_marks (map (λ head. head.number) l.shared) (map edge_of l.edges) (map edge_of (take l.edge-index l.edges));
  told : AreToldInside (IsToldBehind (IsInsideIn l.nesting.flow.now) (marks_of l.nesting.flow.now.notes.now)
      (map (λ head. head.number) l.shared) (map edge_of l.edges)) []
      (map edge_of (take l.edge-index l.edges)) (map seen l.loops.items);
}

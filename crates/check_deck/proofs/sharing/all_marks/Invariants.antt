use Rattle.std.proofs.Common.{◌≡◌, ◌++◌, map, take}
use Rattle.base_notes.specs.EdgeOf.{edge_of}
use Rattle.check_findings.specs.Edges.{marks_of}
use Rattle.check_deck.specs.Insides.{new_marks}
use Rattle.check_deck.proofs.sharing.all_marks.Given as goal

-- the marks that come with the edges so far stand behind the notes'
abbrev pub invariant-loop-edge : goal.invariant-loop-edge
invariant-loop-edge l = l.all.items ≡ marks_of l.flow.notes.now
    ++ new_marks (map (λ head. head.number) l.shared) (map edge_of l.edges) (map edge_of (take l.edge-index l.edges))

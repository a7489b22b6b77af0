use Rattle.std.proofs.Common.{◌≡◌, map, take}
use Rattle.base_notes.specs.declared.notes.edge.Edge.{Edge}
use Rattle.base_notes.specs.EdgeOf.{edge_of}
use Rattle.check_findings.specs.Finding.{closes}
use Rattle.check_findings.specs.declared.within.Within.TheVariants as within
use Rattle.check_findings.specs.FindingOf.{seen}
use Rattle.check_deck.proofs.loops.loops_alone.Given as goal

-- the loops of the edges so far are listed
abbrev pub invariant-loop-edge : goal.invariant-loop-edge
invariant-loop-edge l =
    map seen l.loops.items ≡ map (λ (edge : Edge). closes (edge_of edge) within.Run) (take l.edge-index l.edges)

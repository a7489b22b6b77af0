use Rattle.std.proofs.Common.{◌≡◌, ◌++◌, map, take}
use Rattle.base_words.specs.declared.location.Location.{Location}
use Rattle.flow_loops.specs.Closing.{edges_onto}
use Rattle.base_notes.specs.EdgeOf.{edge_of}
use Rattle.flow_loops.proofs.closing.add_edges.Given as goal

-- the edges to the locations so far are added
abbrev pub invariant-loop-onto : goal.invariant-loop-onto
invariant-loop-onto l =
    map edge_of l.edges.items ≡ map edge_of l.fn.edges.items
    ++ edges_onto l.from.number (map (λ (location : Location). location.number) (take l.onto-index l.targets))

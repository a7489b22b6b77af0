use Rattle.std.proofs.Common.{◌≡◌, ◌++◌, map, drop}
use Rattle.std.specs.Prelude.{flat_map}
use Rattle.base_notes.specs.EdgeOf.{edge_of}
use Rattle.base_notes.specs.Marks.{edges_of}
use Rattle.read_toml.proofs.notes.repeated_faults.edges_of.Given as goal

-- those so far and those that are left are all
abbrev pub invariant-loop-mark : goal.invariant-loop-mark
invariant-loop-mark l =
    map edge_of l.edges.items ++ flat_map edges_of (drop l.mark-index l.marks) ≡ flat_map edges_of l.marks

use Rattle.std.proofs.Common.{◌≡◌, map, take}
use Rattle.base_notes.specs.EdgeOf.{edge_of}
use Rattle.check_deck.specs.Insides.{alone}
use Rattle.check_deck.proofs.sharing.each_alone.Given as goal

-- a mark on each edge so far
abbrev pub invariant-loop-edge : goal.invariant-loop-edge
invariant-loop-edge l = l.marks.items ≡ alone (map edge_of (take l.edge-index l.edges))

use Rattle.std.proofs.Common.{◌≡◌, ◌*◌, ◌≤◌, take}
use Rattle.read_decks.specs.InDeck.{loads_in}
use Rattle.flow_graph.specs.Flow.{deck_of, executed_in, notes_of}
use Rattle.print_walks.specs.SizeText.{hops_among}
use Rattle.print_walks.proofs.size.hops_of.Given as goal

-- the hops of the locations so far
abbrev pub invariant-loop-location : goal.invariant-loop-location
invariant-loop-location l =
    (l.sum ≡ hops_among (loads_in (deck_of l.flow)) (notes_of l.flow) (take l.location-index (executed_in l.flow)))
    × (l.sum ≤ 2560004 * l.location-index)

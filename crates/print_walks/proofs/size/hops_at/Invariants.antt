use Rattle.std.proofs.Common.{◌≡◌, ◌+◌, length}
use Rattle.read_decks.specs.InDeck.{loads_in}
use Rattle.flow_graph.specs.Flow.{deck_of, notes_of}
use Rattle.flow_graph.specs.Hops.{hops}
use Rattle.flow_graph.specs.HopsLeft.{hops_left}
use Rattle.print_walks.proofs.size.hops_at.Given as goal

-- those counted and those that are left are all
abbrev pub invariant-loop : goal.invariant-loop
invariant-loop l =
    l.count + length (hops_left l.iterator')
    ≡ length (hops (loads_in (deck_of l.flow)) (notes_of l.flow) l.fn.location.number)

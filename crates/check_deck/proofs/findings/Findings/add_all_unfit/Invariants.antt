use Rattle.std.proofs.Common.{◌≡◌, ◌++◌, flat_map, take}
use Rattle.read_decks.specs.InDeck.{loads_in}
use Rattle.flow_graph.specs.Flow.{executed_in}
use Rattle.check_findings.specs.FoundAt.{unfit}
use Rattle.check_deck.specs.FindingsOf.{found_in}
use Rattle.check_deck.proofs.findings.Findings.add_all_unfit.Given as goal

-- what is wrong with the locations so far was added
abbrev pub invariant-loop-location : goal.invariant-loop-location
invariant-loop-location l = found_in l.self ≡ found_in l.fn.self
    ++ flat_map (unfit (loads_in l.flow.deck.now) l.flow.notes.now) (take l.location-index (executed_in l.flow))

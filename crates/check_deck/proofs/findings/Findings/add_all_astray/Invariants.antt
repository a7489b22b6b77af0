use Rattle.std.proofs.Common.{◌≡◌, ◌++◌, flat_map, take}
use Rattle.read_decks.specs.InDeck.{loads_in}
use Rattle.flow_graph.specs.Flow.{nodes_of}
use Rattle.check_findings.specs.FoundAt.{astray}
use Rattle.check_deck.specs.FindingsOf.{found_in}
use Rattle.check_deck.proofs.findings.Findings.add_all_astray.Given as goal

-- the marks so far that are astray were added
abbrev pub invariant-loop-mark : goal.invariant-loop-mark
invariant-loop-mark l = found_in l.self ≡ found_in l.fn.self
    ++ flat_map (astray (loads_in l.flow.deck.now) l.flow.notes.now (nodes_of l.flow))
    (take l.mark-index l.flow.notes.now.marks)

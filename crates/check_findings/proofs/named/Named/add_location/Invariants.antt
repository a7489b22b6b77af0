use Rattle.std.proofs.Common.{Contains}
use Rattle.std.specs.Prelude.{flat_map}
use Rattle.read_decks.specs.InDeck.{loads_in}
use Rattle.base_notes.specs.Allowed.{matching}
use Rattle.flow_graph.specs.Patterns.{patterns_left}
use Rattle.check_findings.specs.Idle.{named_at, names}
use Rattle.check_findings.proofs.NamedFlags.{AreLeft}
use Rattle.check_findings.proofs.named.Named.add_location.Given as goal

-- what is set, and what the patterns that are left name, is what was set, and what all of them name
abbrev pub invariant-loop-pattern : goal.invariant-loop-pattern
invariant-loop-pattern l =
    AreLeft (Contains (named_at (loads_in l.deck) l.notes l.fn.location.number)) l.fn.self.flags.items
    (Contains (flat_map names (flat_map matching (patterns_left l.pattern-iterator)))) l.self.flags.items

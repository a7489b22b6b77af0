use Rattle.std.specs.Prelude.{All}
use Rattle.check_deck.specs.KnownInside.{IsKnown}
use Rattle.check_deck.proofs.nesting.Nesting.of.Given as goal

-- what is known so far is right
abbrev pub invariant-loop-outer : goal.invariant-loop-outer
invariant-loop-outer l = All (IsKnown l.flow) l.known.items

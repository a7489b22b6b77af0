use Rattle.std.specs.Prelude.{All}
use Rattle.check_deck.specs.KnownInside.{IsKnown}
use Rattle.check_deck.proofs.nesting.add_known.Given as goal

-- what is known so far is right
abbrev pub invariant-loop-inner : goal.invariant-loop-inner
invariant-loop-inner l = All (IsKnown l.flow) l.known.items

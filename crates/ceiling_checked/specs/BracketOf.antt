-- When a ceiling with a walk in rounds is right: the ceiling by `IsCeiling`, and the walk, with the
-- time that the line `reached` tells, by `SpellOut` of `ceiling_rounds`.
use Rattle.read_decks.specs.declared.deck.Deck.{Deck}
use Rattle.base_notes.specs.declared.times.Times.{Times}
use Rattle.base_notes.specs.Allowed.{Notes}
use Rattle.flow_graph.specs.SettingOf.{setting}
use Rattle.ceiling_rounds.specs.InRounds.{total_of, IsInRoundsOf}
use Rattle.ceiling_rounds.specs.OneHop.{NoWalkOfOneHopTakesLonger}
use Rattle.ceiling_checked.specs.CeilingOf.{IsCeilingOf}
use Rattle.ceiling_checked.specs.declared.bracket.Bracket.{Bracket}

-- The one is a ceiling of the deck, the other a walk of it, no shorter than any of one hop.
pub record IsBracketOf (deck : Deck) (times : Times) (notes : Notes) (bracket : Bracket) : Type 0
  where
    pub ceiling : IsCeilingOf deck times notes bracket.ceiling
    pub walk : IsInRoundsOf deck times notes bracket.walk
    pub longest : NoWalkOfOneHopTakesLonger (setting deck times notes) (total_of bracket.walk)

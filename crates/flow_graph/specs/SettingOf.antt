-- What the walks of a deck under its notes are walks of, as the code has it.
use Rattle.read_decks.specs.declared.deck.Deck.{Deck}
use Rattle.read_decks.specs.InDeck.{loads_in, start_in}
use Rattle.base_notes.specs.declared.times.Times.{Times}
use Rattle.base_notes.specs.Allowed.{Notes}
use Rattle.base_notes.specs.Entries.{entry_in}
use Rattle.flow_graph.specs.Walk.{Setting}

-- a deck, a timing table and notes, as what walks are walks of
abbrev pub setting : Deck → Times → Notes → Setting
setting deck times notes =
    record { loads = loads_in deck; notes = notes; times = entry_in times; start = start_in deck }

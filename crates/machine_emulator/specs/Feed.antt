-- What the card machine is fed with: the cards and the waits that are left.
use Rattle.std.specs.Prelude.{ℕ, List}
use Rattle.std.specs.Vec.Iter.{into_iter_items}
use Rattle.machine_steps.specs.declared.card.Card.{Card}
use Rattle.machine_emulator.specs.declared.feed.Feed.{Feed}

-- the cards left in the reader
abbrev pub cards_left : Feed → List Card
cards_left feed = into_iter_items feed.cards

-- the waits that are left
abbrev pub waits_left : Feed → List ℕ
waits_left feed = into_iter_items feed.waits

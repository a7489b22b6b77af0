-- What is known of a walk's pieces.
use Rattle.std.specs.Prelude.{◌≡◌, [], length, replicate, None}
use Rattle.read_decks.specs.declared.deck.Deck.{Deck}
use Rattle.base_notes.specs.declared.times.Times.{Times}
use Rattle.base_notes.specs.Allowed.{Notes}
use Rattle.flow_walks.specs.Pieces.{spelled_behind}
use Rattle.ceiling_rounds.specs.declared.in_rounds.InRounds.{InRounds}
use Rattle.ceiling_rounds.specs.InRounds.{pieces_of, IsInRoundsOf}
use Rattle.print_ceilings.specs.declared.piece_index.PieceIndex.{PieceIndex}
use Rattle.print_ceilings.specs.CountsOf.{AreCounted}
use Rattle.print_ceilings.specs.EndsOf.{AreAllEnds}

-- It is the index of this walk, and no part has begun.
pub record IsPieceIndexOf (walk : InRounds) (index : PieceIndex) : Type 0 where
  pub ends : AreAllEnds index.ends.items (spelled_behind [] (pieces_of walk))
  pub counts : AreCounted index.named.items (pieces_of walk)
  pub none : index.parts.items ≡ replicate (length (pieces_of walk)) None

-- It is a walk of some deck with this timing table.
abbrev pub IsWalkWith : Times → InRounds → Type 0
IsWalkWith times walk = (deck : Deck) × ((notes : Notes) × IsInRoundsOf deck times notes walk)

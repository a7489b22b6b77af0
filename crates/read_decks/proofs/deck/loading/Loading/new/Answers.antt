use Rattle.std.proofs.Common.{refl, rules}
use Rattle.read_decks.proofs.LineFaults.{nothing_held}
use Rattle.read_decks.proofs.deck.loading.Loading.new.Goals as goal

pub returns : goal.returns
returns c = nothing_held _ (c.in_ok-vec.ensures.items_if_clones_equal (λ y h. search rules)) c.new.ensures.items refl

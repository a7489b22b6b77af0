use Rattle.read_decks.specs.DeckText.{start}
use Rattle.read_faults.proofs.faults_of_deck.says_start.Goals as goal

-- what is no line of a deck says nothing
pub returns-in_default-2 : goal.returns-in_default-2
returns-in_default-2 c =
    let none = rw c.in_default.is at c.read.ensures.none in
    (λ found. cc (found), λ says. absurd (none (start says.0) says.1))

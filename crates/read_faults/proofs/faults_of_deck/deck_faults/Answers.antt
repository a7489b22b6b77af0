use Rattle.std.proofs.Common.{ap, ◌∙◌, Vec, Global}
use Rattle.read_decks.specs.declared.deck.fault.DeckFault.{DeckFault}
use Rattle.read_faults.specs.declared.placed_fault.PlacedFault.{PlacedFault}
use Rattle.read_faults.proofs.ReadSoFar.{deck_told, startless_told}
use Rattle.read_faults.proofs.faults_of_deck.deck_faults.Goals as goal
use Rattle.read_faults.proofs.faults_of_deck.deck_faults.Goals.{then-not-has_start+in_ok-push-2, else-not-has_start}

pub returns : goal.returns
returns c = elim c.if-not-has_start.branch [
  | then-not-has_start+in_ok-push-2 w ↦ startless_told c.args.text.now c.in_ok-faults.faults.items
      c.if-not-has_start.faults.items c.has_start.result c.in_default.ensures.none c.in_ok-faults.ensures
      c.has_start.ensures w.if-not-has_start.true
      (ap (λ (faults : Vec (PlacedFault DeckFault) Global). faults.items) w.faults-is ∙ w.in_ok-push-2.ensures.items)
  | else-not-has_start w ↦ deck_told c.args.text.now c.in_ok-faults.faults.items
      c.if-not-has_start.faults.items c.has_start.result c.in_default.ensures.none c.in_ok-faults.ensures
      c.has_start.ensures w.if-not-has_start.false
      (ap (λ (faults : Vec (PlacedFault DeckFault) Global). faults.items) w.faults-is)
]

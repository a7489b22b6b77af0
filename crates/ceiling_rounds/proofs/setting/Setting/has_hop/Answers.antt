use Rattle.ceiling_rounds.proofs.HopLaws.{hop_there}
use Rattle.read_decks.specs.InDeck.{loads_in}
use Rattle.machine_steps.specs.WaysLeft.{seen_way}
use Rattle.ceiling_rounds.proofs.setting.Setting.has_hop.Goals as goal

pub returns-then-allows : goal.returns-then-allows
returns-then-allows c = λ yes.
    let own = c.args.self.now in
    hop_there (loads_in own.deck.now) own.notes.now c.args.location.number c.args.hop.instruction
    (seen_way c.args.hop.way) (c.allows.ensures c.if-allows.true) (c.has_way.ensures yes)

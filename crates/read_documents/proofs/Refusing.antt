-- What refuses the text of a deck; and that no fault of a text which was read says that a read failed.
use Rattle.std.proofs.Common.{◌≡◌, ◌≢◌, refl}
use Rattle.read_decks.specs.declared.deck.fault.DeckFault.{DeckFault}
use Rattle.read_decks.specs.declared.deck.fault.DeckFault.TheVariants.{Read, Memory, Card, Twice, NoStart, TwoStarts}
use Rattle.read_decks.specs.declared.deck.fault.DeckFault.TheVariants.{PastDrum, TooLong}
use Rattle.read_replays.specs.declared.fault.InputFault.{InputFault}
use Rattle.read_replays.specs.declared.fault.InputFault.TheVariants as of_inputs
use Rattle.print_lines.specs.declared.fault.Fault.TheVariants as faults
use Rattle.print_lines.specs.FaultStatus.{reads_failed}

pub deck_unread : (fault : DeckFault) → fault ≢ Read → reads_failed (faults.Deck fault) ≡ 0
deck_unread Read read = absurd (read refl)
deck_unread Memory read = refl
deck_unread (Card line) read = refl
deck_unread (Twice location) read = refl
deck_unread NoStart read = refl
deck_unread (TwoStarts line) read = refl
deck_unread (PastDrum line) read = refl
deck_unread TooLong read = refl

pub inputs_unread : (fault : InputFault) → fault ≢ of_inputs.Read → reads_failed (faults.Inputs fault) ≡ 0
inputs_unread of_inputs.Read read = absurd (read refl)
inputs_unread of_inputs.Memory read = refl
inputs_unread (of_inputs.Line line) read = refl
inputs_unread (of_inputs.Repeated line) read = refl
inputs_unread (of_inputs.PastDrum line) read = refl
inputs_unread of_inputs.TooLong read = refl

use Rattle.std.proofs.Common.{sym, subst}
use Rattle.std.proofs.Common.{List, ℕ}
use Rattle.read_decks.specs.InDeck.{loads_in, start_in}
use Rattle.flow_graph.specs.Flow.{deck_of, executed_in, notes_of}
use Rattle.flow_acceptance.specs.Altering.{FlagsFixed}
use Rattle.flow_acceptance.specs.Fixed.{AreFlagged}
use Rattle.flow_acceptance.proofs.Acceptances.{flags_fixed, moved}
use Rattle.flow_acceptance.proofs.ordered_flow.sound_flow.Goals as goal

pub check_unaltered-requires-clause-fixed : goal.check_unaltered-requires-clause-fixed
check_unaltered-requires-clause-fixed c =
    let flow = c.in_ok-flow.flow in
    let deck = c.args.deck.now in
    let notes = c.args.notes.now in
    let flagged : AreFlagged (executed_in flow) notes c.in_ok-fixed.fixed.flags.items =
    subst (λ (places : List ℕ). AreFlagged places notes c.in_ok-fixed.fixed.flags.items) c.executed.ensures.all
    c.in_ok-fixed.ensures in
    moved (λ d n. FlagsFixed (loads_in d) n (start_in d) c.in_ok-fixed.fixed) deck (deck_of flow) notes (notes_of flow)
    (sym c.in_ok-flow.ensures.deck) (sym c.in_ok-flow.ensures.notes)
    (flags_fixed (loads_in deck) notes (start_in deck) (executed_in flow) c.in_ok-fixed.fixed
    c.in_ok-flow.ensures.executed flagged)

-- Of reached: the executed locations of an accepted flow are all that are found, and the longer of two walks is a walk,
-- no shorter than the one of one hop.
use Rattle.std.proofs.Common.{◌≤◌, Option, sym, subst, arith, inl, inr}
use Rattle.std.specs.Prelude.{IfSome}
use Rattle.read_decks.specs.InDeck.{loads_in, start_in}
use Rattle.flow_graph.specs.Flow.{deck_of, executed_in, notes_of, AreFound}
use Rattle.flow_graph.specs.SettingOf.{setting}
use Rattle.flow_graph.proofs.Orders.{order_found}
use Rattle.flow_acceptance.proofs.Acceptances.{moved}
use Rattle.ceiling_rounds.specs.declared.in_rounds.InRounds.{InRounds}
use Rattle.ceiling_rounds.specs.InRounds.{total_of, IsInRoundsOf}
use Rattle.ceiling_rounds.specs.OneHop.{NoWalkOfOneHopTakesLonger}
use Rattle.ceiling_checked.proofs.bracket.reached.Goals as goal

pub found_along-requires-clause-found : goal.found_along-requires-clause-found
found_along-requires-clause-found c =
    let flow = c.in_ok-accepted.accepted.flow in
    let deck = c.args.deck.now in
    let notes = c.args.notes.now in
    let executed = executed_in flow in
    moved (λ d n. AreFound (loads_in d) n (start_in d) executed) deck (deck_of flow) notes (notes_of flow)
    (sym c.in_ok-accepted.ensures.deck) (sym c.in_ok-accepted.ensures.notes)
    (order_found (loads_in deck) notes (start_in deck) executed c.in_ok-accepted.ensures.admitted.order)

pub one_hop-requires : goal.one_hop-requires
one_hop-requires c =
    let flow = c.in_ok-accepted.accepted.flow in
    let deck = c.args.deck.now in
    let notes = c.args.notes.now in
    let executed = executed_in flow in
    record {
      found =
          moved (λ d n. AreFound (loads_in d) n (start_in d) executed) deck (deck_of flow) notes (notes_of flow)
          (sym c.in_ok-accepted.ensures.deck) (sym c.in_ok-accepted.ensures.notes)
          (order_found (loads_in deck) notes (start_in deck) executed c.in_ok-accepted.ensures.admitted.order);
    }

pub returns-clause-given : goal.returns-clause-given
returns-clause-given c =
    let flow = c.in_ok-accepted.accepted.flow in
    let deck = c.args.deck.now in
    let times = c.args.times.now in
    let notes = c.args.notes.now in
    let one_hop = c.in_ok-one_hop.field-0 in
    let walk = c.longer_of-walk.result in
    let g = setting deck times notes in
    let right : IsInRoundsOf deck times notes one_hop =
    moved (λ d n. IsInRoundsOf d times n one_hop) (deck_of flow) deck (notes_of flow) notes
    c.in_ok-accepted.ensures.deck c.in_ok-accepted.ensures.notes c.in_ok-one_hop.ensures.right in
    let longest : NoWalkOfOneHopTakesLonger g (total_of one_hop) =
    moved (λ d n. NoWalkOfOneHopTakesLonger (setting d times n) (total_of one_hop)) (deck_of flow) deck (notes_of flow)
    notes c.in_ok-accepted.ensures.deck c.in_ok-accepted.ensures.notes c.in_ok-one_hop.ensures.longest in
    let longer : total_of one_hop ≤ total_of walk = c.longer_of-walk.ensures.longer in
    record {
      ceiling = c.in_ok-ceiling.ensures.given;
      walk =
          elim c.longer_of-walk.ensures.either [
            | inl is ↦ subst (IsInRoundsOf deck times notes) (sym is) right
            | inr is ↦
                subst (λ (made : Option InRounds). IfSome made (IsInRoundsOf deck times notes)) is c.in_ok-found.ensures
          ];
      longest = λ angle hop is. omega (arith, longest angle hop is, longer);
    }

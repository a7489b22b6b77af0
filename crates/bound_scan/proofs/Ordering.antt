-- The order of an accepted deck's executed locations is one that keys can be made of.
use Rattle.std.proofs.Common.{◌≡◌, ℕ, ◌*◌, ◌≤◌, List, length, ap, sym, subst}
use Rattle.std.proofs.Common.{Option, arith}
use Rattle.base_words.specs.declared.word.Word.{Word}
use Rattle.read_decks.specs.declared.deck.Deck.{Deck}
use Rattle.read_decks.specs.InDeck.{loads_in, start_in}
use Rattle.base_notes.specs.Allowed.{Notes, AreSound}
use Rattle.machine_steps.specs.Calls.{none_open}
use Rattle.base_graphs.specs.Graph.{AreDifferent}
use Rattle.base_graphs.proofs.Members.{no_more}
use Rattle.flow_graph.specs.Accepted.{counts_of, IsAccepted}
use Rattle.flow_graph.specs.Flow.{deck_of, notes_of, executed_in, AreFound}
use Rattle.flow_graph.proofs.Orders.{first_reached, order_found}
use Rattle.flow_acceptance.specs.declared.ordered_flow.OrderedFlow.{OrderedFlow}
use Rattle.flow_acceptance.specs.OrderedFlow.{in_order}
use Rattle.flow_acceptance.specs.Free.{IsFreeOrder}
use Rattle.flow_acceptance.proofs.Acceptances.{moved}
use Rattle.flow_acceptance.proofs.Plain.{executed_next}
use Rattle.bound_scan.specs.Keys.{keys_of, IsOrdered}
use Rattle.bound_scan.specs.KeysOf.{CanHaveKeys}

module _ (loads : ℕ → Option Word) (notes : Notes) (start : ℕ) (executed : List ℕ)
    (accepted : IsAccepted loads notes start executed) where
  -- The executed locations of an accepted deck are just the members of the order of discovery.
  pub are_executed : AreFound loads notes start executed
  are_executed = order_found loads notes start executed accepted.admitted.order

  module _ (order : List ℕ) (free : IsFreeOrder loads notes executed order) (different : AreDifferent executed) where
    -- The order has as many locations as are executed.
    pub as_many_places : length order ≡ length executed
    as_many_places = omega
        (arith, no_more order executed free.different free.only, no_more executed order different free.all)

    -- Keys can be made of the order.
    pub is_ordered : AreSound notes → IsOrdered loads notes start order
    is_ordered sound = record {
      starts = free.all start (are_executed.all start (none_open notes.calls, first_reached loads notes start));
      different = free.different;
      closed = λ place next has edge.
          free.all next (are_executed.all next
          (executed_next loads notes accepted.plain start place next (are_executed.only place (free.only place has))
          edge));
      onward = free.onward;
      sound = sound;
      plain = accepted.plain;
      few = few;
    }
      where
        few : keys_of notes.marks order ≤ 4000000
        few =
            let same : counts_of notes.marks * length order ≡ counts_of notes.marks * length executed =
            ap (λ (n : ℕ). counts_of notes.marks * n) as_many_places in
            omega (arith, same, accepted.small)

-- The order of an accepted flow has as many locations as are executed.
pub as_many : (accepted : OrderedFlow)
    → IsAccepted (loads_in (deck_of accepted.flow)) (notes_of accepted.flow) (start_in (deck_of accepted.flow))
    (executed_in accepted.flow)
    → IsFreeOrder (loads_in (deck_of accepted.flow)) (notes_of accepted.flow) (executed_in accepted.flow)
    (in_order accepted)
    → AreDifferent (executed_in accepted.flow)
    → length (in_order accepted) ≡ length (executed_in accepted.flow)
as_many accepted is free different =
    as_many_places (loads_in (deck_of accepted.flow)) (notes_of accepted.flow) (start_in (deck_of accepted.flow))
    (executed_in accepted.flow) is (in_order accepted) free different

-- Keys can be made of an accepted flow.
pub can_have_keys : (accepted : OrderedFlow)
    → IsAccepted (loads_in (deck_of accepted.flow)) (notes_of accepted.flow) (start_in (deck_of accepted.flow))
    (executed_in accepted.flow)
    → IsFreeOrder (loads_in (deck_of accepted.flow)) (notes_of accepted.flow) (executed_in accepted.flow)
    (in_order accepted)
    → AreSound (notes_of accepted.flow) → AreDifferent (executed_in accepted.flow)
    → CanHaveKeys accepted
can_have_keys accepted is free sound different = (
  is_ordered (loads_in (deck_of accepted.flow)) (notes_of accepted.flow) (start_in (deck_of accepted.flow))
      (executed_in accepted.flow) is (in_order accepted) free different sound,
  free.only,
)

-- So they can of the flow of an accepted deck.
pub accepted_keys : (accepted : OrderedFlow) (deck : Deck) (notes : Notes) → deck_of accepted.flow ≡ deck
    → notes_of accepted.flow ≡ notes
    → IsAccepted (loads_in deck) notes (start_in deck) (executed_in accepted.flow)
    → IsFreeOrder (loads_in deck) notes (executed_in accepted.flow) (in_order accepted)
    → AreSound notes → AreDifferent (executed_in accepted.flow)
    → CanHaveKeys accepted
accepted_keys accepted deck notes same equal is free sound different =
    can_have_keys accepted
    (moved (λ d n. IsAccepted (loads_in d) n (start_in d) (executed_in accepted.flow)) deck (deck_of accepted.flow)
    notes (notes_of accepted.flow) (sym same) (sym equal) is)
    (moved (λ d n. IsFreeOrder (loads_in d) n (executed_in accepted.flow) (in_order accepted)) deck
    (deck_of accepted.flow) notes (notes_of accepted.flow) (sym same) (sym equal) free)
    (subst AreSound (sym equal) sound) different

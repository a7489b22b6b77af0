-- Why a deck with its notes is accepted, or not.
use Rattle.std.proofs.Common.{◌≡◌, ℕ, zero, suc, ◌*◌, ◌<◌, ◌≤◌, List, length}
use Rattle.std.proofs.Common.{Option, Some, None, ap, sym, ◌∙◌, subst, inl, inr, arith}
use Rattle.std.specs.Prelude.{slice_get, Contains}
use Rattle.std.proofs.lemmas.Bool.{cases_lt}
use Rattle.std.proofs.lemmas.Option.{same_Some, slice_get_past}
use Rattle.base_words.specs.declared.word.Word.{Word}
use Rattle.read_decks.specs.declared.deck.Deck.{Deck}
use Rattle.base_notes.specs.Allowed.{Notes}
use Rattle.base_graphs.proofs.Lists.{contains_at, contains_from_get, one_place}
use Rattle.flow_graph.specs.declared.refusal.Refusal.{Refusal}
use Rattle.flow_graph.specs.declared.refusal.Refusal.TheVariants.{Memory, NotLoaded, NotInProfile, Alters, Unbounded}
use Rattle.flow_graph.specs.declared.refusal.Refusal.TheVariants.{HasCalls, TooMany, TooLarge}
use Rattle.flow_graph.specs.Accepted.{counts_of, product_of, capped, IsFreeLink, IsAdmitted, IsGood, IsMet, IsSound}
use Rattle.flow_graph.specs.Executed.{added_by, each_place, found_after, same_node, with_new_by, AreAllNodes, IsOrder}
use Rattle.flow_graph.specs.Flow.{AreExecuted}
use Rattle.flow_graph.specs.Hops.{Node}
use Rattle.flow_graph.proofs.Links.{node_law}
use Rattle.flow_graph.proofs.Orders.{first_node_at, found_later, has_reached, order_different, order_found, reached_only, stays_there, was}
use Rattle.flow_acceptance.specs.declared.fixed.Fixed.{Fixed}
use Rattle.flow_acceptance.specs.Acceptance.{IsAdmissionRefusal, IsRefusal}
use Rattle.flow_acceptance.specs.Altering.{FlagsFixed, AltersNone}
use Rattle.flow_acceptance.specs.Fixed.{AreFlagged}
use Rattle.flow_acceptance.specs.Free.{IsNodeOrder, IsCycleRefusal}
use Rattle.flow_acceptance.specs.Size.{IsTooMuch}
use Rattle.flow_acceptance.proofs.Heights.{no_round}

-- what is so of one deck and its notes is so of those that are the same
pub moved : (Holds : Deck → Notes → Type 0) (deck other : Deck) (notes others : Notes) → deck ≡ other → notes ≡ others
    → Holds deck notes → Holds other others
moved Holds deck other notes others same equal holds =
    subst (Holds other) equal (subst (λ (d : Deck). Holds d notes) same holds)

module _ (loads : ℕ → Option Word) (notes : Notes) where
  module _ (start : ℕ) where
    -- once each member has added its own, the list stays
    stays : (before after : ℕ) → length (found_after loads notes start before) ≤ before → before ≤ after
        → found_after loads notes start after ≡ found_after loads notes start before
    stays before zero all le =
        let same : zero ≡ before = omega (arith, le) in
        ap (found_after loads notes start) same
    stays before (suc after) all le = elim (cases_lt after before) [
      | inl last ↦ (let same : suc after ≡ before = omega (arith, le, last) in ap (found_after loads notes start) same)
      | inr earlier ↦ (
          let was : found_after loads notes start after ≡ found_after loads notes start before =
          stays before after all earlier in
          let none : slice_get (found_after loads notes start after) after ≡ None =
          slice_get_past (found_after loads notes start after) after
          (omega (arith, ap (λ (xs : List Node). length xs) was, all, earlier)) in
          ap (λ (o : Option Node). with_new_by same_node (found_after loads notes start after) (added_by loads notes o)) none
          ∙ was)
    ]

    -- so there is one order
    pub one_reached : (a b : List Node) → AreAllNodes loads notes start a → AreAllNodes loads notes start b → a ≡ b
    one_reached a b p q = elim (cases_lt p.count q.count) [
      | inl less ↦ (let same : found_after loads notes start q.count ≡ found_after loads notes start p.count =
          stays p.count q.count (omega (arith, ap (λ (xs : List Node). length xs) p.after, p.all)) (omega (arith, less)) in
          sym p.after ∙ sym same ∙ q.after)
      | inr more ↦ (let same : found_after loads notes start p.count ≡ found_after loads notes start q.count =
          stays q.count p.count (omega (arith, ap (λ (xs : List Node). length xs) q.after, q.all)) more in
          sym p.after ∙ same ∙ q.after)
    ]

    pub one_order : (a b : List ℕ) → IsOrder loads notes start a → IsOrder loads notes start b → a ≡ b
    one_order a b p q =
        sym p.places ∙ ap each_place (one_reached p.nodes q.nodes p.reached q.reached) ∙ q.places

    -- what stands somewhere after some turns stands there in the end
    pub in_the_end : (nodes : List Node) (are : AreAllNodes loads notes start nodes) (turn k : ℕ) (node : Node)
        → slice_get (found_after loads notes start turn) k ≡ Some node → slice_get nodes k ≡ Some node
    in_the_end nodes are turn k node at = elim (cases_lt turn are.count) [
      | inl less ↦ stays_there loads notes start nodes are turn k node (omega (arith, less)) at
      | inr past ↦ (let same : found_after loads notes start turn ≡ found_after loads notes start are.count =
          stays are.count turn (omega (arith, ap (λ (xs : List Node). length xs) are.after, are.all)) past in
          sym (ap (λ (xs : List Node). slice_get xs k) (same ∙ are.after)) ∙ at)
    ]

    -- Where discovery meets a location that isn't good, with those good that it met before, those before it in
    -- the order are good.
    pub met_first : (order : List ℕ) (is : IsOrder loads notes start order) (place : ℕ)
        → IsMet loads notes start place → ¬ IsGood loads notes place
        → (turn : ℕ) × (slice_get order turn ≡ Some place)
        × ((k other : ℕ) → k < turn → slice_get order k ≡ Some other → IsGood loads notes other)
    met_first order is place met bad = (at.0, at.1, earlier)
      where
        node : Node
        node = record { place = place; ways = met.ways }

        here : slice_get is.nodes met.count ≡ Some node
        here = in_the_end is.nodes is.reached met.count met.count node met.member

        at : (turn : ℕ) × (slice_get order turn ≡ Some place)
        at =
            contains_at order place
            ((order_found loads notes start order is).all place (
              met.ways,
              reached_only loads notes start is.nodes is.reached node
                  (contains_from_get is.nodes met.count node here),
            ))

        earlier : (k other : ℕ) → k < at.0 → slice_get order k ≡ Some other → IsGood loads notes other
        earlier k other less there =
            let first = first_node_at loads notes start order is k other there in
            let different = order_different loads notes start order is in
            elim (cases_lt first.0 met.count) [
              | inl sooner ↦ subst (IsGood loads notes) first.3
                  (met.before first.0 first.1 sooner
                  (found_later loads notes start first.0 met.count first.0 first.1 (omega (arith, sooner))
                  (was loads notes start is.nodes is.reached first.0 first.1 first.2)))
              | inr later ↦ (elim (cases_lt met.count first.0) [
                | inl after ↦ (let before = first.4 met.count node after here in
                    absurd (omega (
                      arith,
                      before.1,
                      less,
                      one_place order before.0 at.0 place different before.2 at.1,
                    )))
                | inr not_after ↦ (let same : first.0 ≡ met.count = omega (arith, later, not_after) in
                    let equal : first.1 ≡ node =
                    same_Some first.1 node (sym first.2 ∙ ap (slice_get is.nodes) same ∙ here) in
                    let place_is : other ≡ place = sym first.3 ∙ ap (λ (n : Node). n.place) equal in
                    absurd (omega (
                      arith,
                      less,
                      one_place order k at.0 place different (there ∙ ap Some place_is) at.1,
                    )))
              ])
            ]

    pub flags_fixed : (executed : List ℕ) (fixed : Fixed) → AreExecuted loads notes start executed
        → AreFlagged executed notes fixed.flags.items → FlagsFixed loads notes start fixed
    flags_fixed executed fixed e flags = record {
      only = λ place flagged. (e.found.only place (flags.fixed place flagged).0, (flags.fixed place flagged).1);
      all = λ place is_fixed. flags.flagged place (e.found.all place is_fixed.0) is_fixed.1;
    }

    module _ (executed : List ℕ) (e : AreExecuted loads notes start executed) where
      module _ (none : (place : ℕ) → Contains executed place → AltersNone loads notes start place) where
        sound : IsSound loads notes start
        sound = record {
          good = λ place is_executed. e.good place (e.found.all place is_executed);
          unaltered = λ place ins is_executed allowed. none place (e.found.all place is_executed) ins allowed;
        }

        pub too_much : (refusal : Refusal) → IsTooMuch (capped (product_of executed notes.marks)) refusal
            → IsRefusal loads notes start refusal
        too_much (TooLarge product) wrong =
            (sound, subst (λ (n : ℕ). 4000000 < n) (sym wrong.0) wrong.1, (executed, e.found.order, wrong.0))
        too_much TooMany wrong = absurd wrong
        too_much HasCalls wrong = absurd wrong
        too_much Memory wrong = absurd wrong
        too_much (NotLoaded location) wrong = absurd wrong
        too_much (NotInProfile location op) wrong = absurd wrong
        too_much (Alters writer word) wrong = absurd wrong
        too_much (Unbounded cycle) wrong = absurd wrong

        pub not_admitted : (refusal : Refusal) → IsCycleRefusal loads notes start refusal
            → IsAdmissionRefusal loads notes start refusal
        not_admitted (Unbounded cycle) wrong = record { sound = sound; round = wrong }
        not_admitted TooMany wrong = absurd wrong
        not_admitted HasCalls wrong = absurd wrong
        not_admitted Memory wrong = tt
        not_admitted (NotLoaded location) wrong = absurd wrong
        not_admitted (NotInProfile location op) wrong = absurd wrong
        not_admitted (Alters writer word) wrong = absurd wrong
        not_admitted (TooLarge product) wrong = absurd wrong

        pub is_admitted : (nodes order : List Node) → AreAllNodes loads notes start nodes → length nodes ≤ 65536
            → IsNodeOrder loads notes nodes order → IsAdmitted loads notes start executed
        is_admitted nodes order are few free = record {
          order = e.found.order;
          few = subst (λ (ns : List Node). length ns ≤ 65536)
              (one_reached nodes e.found.order.nodes are e.found.order.reached) few;
          there = λ place is_executed. (e.good place (e.found.all place is_executed)).0;
          profile = λ place is_executed. (e.good place (e.found.all place is_executed)).1;
          unaltered =
              λ place ins at is_executed allowed written is_fixed. none place (e.found.all place is_executed) ins allowed
              (at, written, is_fixed);
          bounded =
              λ first others reached closed. no_round same_node node_law (IsFreeLink loads notes) order first others
              free.different free.onward (free.all first (has_reached loads notes start nodes are first reached)) closed;
        }

        module _ (small : product_of executed notes.marks ≤ 4000000) where
          pub unbounded : (refusal : Refusal) → IsCycleRefusal loads notes start refusal
              → IsRefusal loads notes start refusal
          unbounded (Unbounded cycle) wrong = record {
            small =
                λ other order. subst (λ (places : List ℕ). length places * counts_of notes.marks ≤ 4000000)
                (one_order executed other e.found.order order) small;
            round = record { sound = sound; round = wrong };
          }
          unbounded TooMany wrong = absurd wrong
          unbounded HasCalls wrong = absurd wrong
          unbounded Memory wrong = tt
          unbounded (NotLoaded location) wrong = absurd wrong
          unbounded (NotInProfile location op) wrong = absurd wrong
          unbounded (Alters writer word) wrong = absurd wrong
          unbounded (TooLarge product) wrong = absurd wrong

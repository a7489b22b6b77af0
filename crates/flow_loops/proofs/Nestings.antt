-- What leads where past a location, by indices, is so of the nodes at these indices.
use Rattle.std.proofs.Common.{◌≡◌, ℕ, ◌<◌, List, ◌∷◌, length, map, Option, Some, refl, ap, sym, ◌∙◌, subst, inl, inr, []}
use Rattle.std.proofs.Common.{Bool, true, false, ◌⊎◌, arith}
use Rattle.std.specs.Prelude.{slice_get, slice_index, ◌↔◌, IsTrue}
use Rattle.std.proofs.lemmas.Option.{get_or_from_slice_get, same_Some, slice_get_within}
use Rattle.base_words.specs.declared.word.Word.{Word}
use Rattle.base_notes.specs.Allowed.{Notes}
use Rattle.base_graphs.proofs.Lists.{contains_at, contains_from_get}
use Rattle.flow_graph.specs.Executed.{AreAllNodes}
use Rattle.flow_graph.specs.Hops.{first_node, IsLink, Node}
use Rattle.flow_graph.proofs.Orders.{has_reached, place_at, reached_next, reached_only, stays_there}
use Rattle.flow_acceptance.proofs.FreeRows.{some_at}
use Rattle.flow_loops.specs.Links.{AreLinkRows}
use Rattle.flow_loops.specs.Loops.{LeadBy}
use Rattle.flow_loops.specs.Nested.{GoesAround, GoesRound, IsAvoided, IsNested, LeadsAround, LeadsOver}
use Rattle.flow_loops.specs.Reached.{GoesPast, IsAt, LeadsAbout, LeadsBack, LeadsPast, LeadsToSuch, OneLeadsAbout}

module _ (loads : ℕ → Option Word) (notes : Notes) (start : ℕ) (nodes : List Node) (row : ℕ → List ℕ) (size : ℕ)
    (are : AreAllNodes loads notes start nodes) (links : AreLinkRows loads notes nodes row) (long : size ≡ length nodes) where
  abbrev places : List ℕ
  places = map (λ (node : Node). node.place) nodes

  place_of : (k : ℕ) (node : Node) → slice_get nodes k ≡ Some node → slice_index places k ≡ node.place
  place_of k node at = get_or_from_slice_get places k node.place 0 (place_at nodes k node at)

  next_index : (k : ℕ) (node next : Node) → slice_get nodes k ≡ Some node → IsLink loads notes node next
      → (j : ℕ) × (slice_get nodes j ≡ Some next)
  next_index k node next at link =
      contains_at nodes next
      (has_reached loads notes start nodes are next
      (reached_next loads notes start node next
      (reached_only loads notes start nodes are node (contains_from_get nodes k node at)) link))

  nodes_lead : (avoided k last : ℕ) (node : Node) (through : List ℕ) → slice_get nodes k ≡ Some node
      → LeadBy (GoesPast row places avoided) k through last
      → (other : Node) × (slice_get nodes last ≡ Some other) × LeadsAround loads notes avoided node other
  nodes_lead avoided k last node [] at lead = (node, sym (ap (slice_get nodes) lead) ∙ at, ([], refl))
  nodes_lead avoided k last node (next ∷ through) at lead =
      let edge = (links k node at).only next lead.0.0 in
      let rest = nodes_lead avoided next last edge.0 through edge.1 lead.1 in (
        rest.0,
        rest.1,
        (
          edge.0 ∷ rest.2.0,
          ((edge.2, λ same. lead.0.1 (place_of next edge.0 edge.1 ∙ same)), rest.2.1),
        ),
      )

  indices_lead : (avoided k : ℕ) (node other : Node) (through : List Node) → slice_get nodes k ≡ Some node
      → LeadBy (GoesAround loads notes avoided) node through other
      → (last : ℕ) × (slice_get nodes last ≡ Some other) × LeadsPast row places avoided k last
  indices_lead avoided k node other [] at lead = (k, at ∙ ap Some lead, ([], refl))
  indices_lead avoided k node other (next ∷ through) at lead =
      let there = next_index k node next at lead.0.0 in
      let rest = indices_lead avoided there.0 next other through there.1 lead.1 in (
        rest.0,
        rest.1,
        (
          there.0 ∷ rest.2.0,
          (
            (
              (links k node at).all there.0 next there.1 lead.0.0,
              λ same. lead.0.1 (sym (place_of there.0 next there.1) ∙ same),
            ),
            rest.2.1,
          ),
        ),
      )

  module _ (outer inner : ℕ × ℕ) (k : ℕ) (node : Node) (at : slice_get nodes k ≡ Some node) where
    back_over : LeadsToSuch row places outer.1 k (LeadsBack row places inner.0 k)
        → LeadsOver loads notes outer.1 inner.0 node node
    back_over such =
        let found = nodes_lead outer.1 k such.0 node such.1.0 at such.1.1 in
        let edge = (links such.0 found.0 found.1).only k such.2.1 in
        record {
          last = found.0;
          at = sym (place_of such.0 found.0 found.1) ∙ such.2.0;
          around = found.2;
          link = subst (λ (n : Node). IsLink loads notes found.0 n) (same_Some edge.0 node (sym edge.1 ∙ at)) edge.2;
        }

    over_back : LeadsOver loads notes outer.1 inner.0 node node
        → LeadsToSuch row places outer.1 k (LeadsBack row places inner.0 k)
    over_back over =
        let found = indices_lead outer.1 k node over.last over.around.0 at over.around.1 in (
          found.0,
          found.2,
          (place_of found.0 over.last found.1 ∙ over.at, (links found.0 over.last found.1).all k node at over.link),
        )

    about_round : LeadsAbout row places outer inner k → GoesRound loads notes outer inner node
    about_round about =
        let such = about.out in
        let found = nodes_lead outer.1 k such.0 node such.1.0 at such.1.1 in
        let edge = (links such.0 found.0 found.1).only such.2.1.0 such.2.1.1 in
        record {
          round = back_over about.back;
          head = edge.0;
          at = sym (place_of such.2.1.0 edge.0 edge.1) ∙ such.2.1.2;
          onward = record {
            last = found.0;
            at = sym (place_of such.0 found.0 found.1) ∙ such.2.0;
            around = found.2;
            link = edge.2;
          };
        }

    round_about : GoesRound loads notes outer inner node → LeadsAbout row places outer inner k
    round_about goes =
        let over = goes.onward in
        let found = indices_lead outer.1 k node over.last over.around.0 at over.around.1 in
        let head = next_index found.0 over.last goes.head found.1 over.link in
        record {
          back = over_back goes.round;
          out = (
            found.0,
            found.2,
            (
              place_of found.0 over.last found.1 ∙ over.at,
              (
                head.0,
                (links found.0 over.last found.1).all head.0 goes.head head.1 over.link,
                place_of head.0 goes.head head.1 ∙ goes.at,
              ),
            ),
          );
        }

  -- the first node is where runs begin
  begins : slice_get nodes 0 ≡ Some (first_node notes start)
  begins = stays_there loads notes start nodes are 0 0 (first_node notes start) (omega arith) refl

  pub has_first : 0 < size
  has_first = omega (arith, slice_get_within nodes 0 (first_node notes start) begins, long)

  module _ (outer inner : ℕ × ℕ) where
    avoided_nodes : ¬ LeadsToSuch row places outer.1 0 (IsAt places inner.1) → IsAvoided loads notes start outer.1 inner.1
    avoided_nodes never node at lead =
        let found = indices_lead outer.1 0 (first_node notes start) node lead.0 begins lead.1 in
        never (found.0, found.2, place_of found.0 node found.1 ∙ at)

    avoided_indices : IsAvoided loads notes start outer.1 inner.1 → ¬ LeadsToSuch row places outer.1 0 (IsAt places inner.1)
    avoided_indices never such =
        let found = nodes_lead outer.1 0 such.0 (first_node notes start) such.1.0 begins such.1.1 in
        never found.0 (sym (place_of such.0 found.0 found.1) ∙ such.2) found.2

    abbrev IsEntered : Type 0
    IsEntered = (start ≡ outer.1) ⊎ ¬ LeadsToSuch row places outer.1 0 (IsAt places inner.1)

    entered_nodes : IsEntered → (start ≡ outer.1) ⊎ IsAvoided loads notes start outer.1 inner.1
    entered_nodes (inl same) = inl same
    entered_nodes (inr never) = inr (avoided_nodes never)

    entered_indices : (start ≡ outer.1) ⊎ IsAvoided loads notes start outer.1 inner.1 → IsEntered
    entered_indices (inl same) = inl same
    entered_indices (inr never) = inr (avoided_indices never)

    -- the start comes to the inner head past the outer one
    pub not_entered : ¬ ((start ≡ outer.1) ⊎ ¬ LeadsToSuch row places outer.1 0 (IsAt places inner.1))
        → IsTrue false ↔ IsNested loads notes start outer inner
    not_entered not = (
      λ yes. let clash : false ≡ true = yes in cc,
      λ nested. absurd (not (entered_indices nested.through)),
    )

    -- it doesn't: then it stands inside where links go round from one of the nodes
    pub nested_by : (inner.1 ≡ outer.1 → ⊥)
        → (start ≡ outer.1) ⊎ ¬ LeadsToSuch row places outer.1 0 (IsAt places inner.1)
        → (answer : Bool) → (IsTrue answer ↔ OneLeadsAbout row places outer inner size)
        → IsTrue answer ↔ IsNested loads notes start outer inner
    nested_by apart entered answer is = (
      λ yes.
          let one = is.0 yes in
          let at = some_at nodes one.0 (omega (arith, one.1, long)) in
          record {
            apart = apart;
            node = at.0;
            within = reached_only loads notes start nodes are at.0 (contains_from_get nodes one.0 at.0 at.1);
            at = sym (place_of one.0 at.0 at.1) ∙ one.2;
            goes = about_round outer inner one.0 at.0 at.1 one.3;
            through = entered_nodes entered;
          },
      λ nested.
          let at = contains_at nodes nested.node (has_reached loads notes start nodes are nested.node nested.within) in
          is.1 (
            at.0,
            omega (arith, slice_get_within nodes at.0 nested.node at.1, long),
            place_of at.0 nested.node at.1 ∙ nested.at,
            round_about outer inner at.0 nested.node at.1 nested.goes,
          ),
    )

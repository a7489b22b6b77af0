-- The edges that don't go on close the loops.
use Rattle.std.proofs.Common.{◌≡◌, ℕ, ◌<◌, List, [], ◌∷◌, length, map, Option, Some, refl, ap, sym, ◌∙◌}
use Rattle.std.proofs.Common.{subst, inl, inr, arith}
use Rattle.std.specs.Prelude.{slice_get, slice_index, Contains}
use Rattle.std.proofs.lemmas.Bool.{cases_lt}
use Rattle.std.proofs.lemmas.Option.{same_Some, slice_get_within}
use Rattle.base_words.specs.declared.word.Word.{Word}
use Rattle.base_notes.specs.Allowed.{Notes}
use Rattle.base_graphs.specs.Graph.{LeadRound}
use Rattle.base_graphs.proofs.Lists.{contains_at, contains_from_get}
use Rattle.flow_graph.specs.Accepted.{IsFreeLink}
use Rattle.flow_graph.specs.Executed.{AreAllNodes}
use Rattle.flow_graph.specs.Flow.{AreFound}
use Rattle.flow_graph.specs.Hops.{Node}
use Rattle.flow_graph.proofs.Orders.{has_reached, node_at, place_at, reached_next, reached_only}
use Rattle.flow_acceptance.specs.Free.{those_at, AreFreeRows}
use Rattle.flow_acceptance.proofs.Translations.{those_first}
use Rattle.flow_loops.specs.Arranged.{GoesOn, IsArranged}
use Rattle.flow_loops.specs.Closing.{AreBack}
use Rattle.flow_loops.specs.Loops.{LeadBy, IsFreeBeside, IsFreeBut, IsNeeded, AreClosing}
use Rattle.flow_loops.specs.Ranks.{AreRanks}
use Rattle.flow_loops.specs.Spared.{AreEnough, AreOneWay}
use Rattle.flow_loops.proofs.Rankings.{before_ranked}

-- Where others lead from the end of an edge back to its beginning, they lead round with it.
round_back : (loads : ℕ → Option Word) (notes : Notes) (edges : List (ℕ × ℕ)) (from onto node : Node)
    (through : List Node) → LeadBy (IsFreeBeside loads notes edges) node through from → IsFreeLink loads notes from onto
    → LeadRound (IsFreeBut loads notes edges (from.place, onto.place)) onto node through
round_back loads notes edges from onto node [] lead free =
    subst (λ (n : Node). IsFreeBut loads notes edges (from.place, onto.place) n onto) (sym lead) (free, λ there. refl)
round_back loads notes edges from onto node (next ∷ nexts) lead free =
    ((lead.0.0, λ there. absurd (lead.0.1 there)), round_back loads notes edges from onto next nexts lead.1 free)

-- no edge of nodes that goes on is one of these edges of locations
abbrev pub AreClear : (ℕ → List ℕ) → List ℕ → List Node → List (ℕ × ℕ) → Type 0
AreClear row order nodes edges = (k j : ℕ) (from onto : Node) → GoesOn row order k j → slice_get nodes k ≡ Some from
    → slice_get nodes j ≡ Some onto → ¬ Contains edges (from.place, onto.place)

module _ (loads : ℕ → Option Word) (notes : Notes) (start : ℕ) (nodes : List Node) (executed : List ℕ)
    (row : ℕ → List ℕ) (size : ℕ) (order ranks : List ℕ) (edges : List (ℕ × ℕ))
    (are : AreAllNodes loads notes start nodes) (found : AreFound loads notes start executed)
    (rows : AreFreeRows loads notes nodes row) (long : size ≡ length nodes) (arranged : IsArranged row size order)
    (ranked : AreRanks order ranks)
    (back : AreBack row ranks (map (λ (node : Node). node.place) nodes) size executed edges) where
  -- where no edge of locations both goes on and leads back
  pub clear : AreOneWay row ranks (map (λ (node : Node). node.place) nodes) size executed
      → AreClear row order nodes edges
  clear one_way k j from onto on begins ends there =
      one_way from.place onto.place (back.begins from.place onto.place there)
      (record {
        node = k;
        early = omega (arith, slice_get_within nodes k from begins, long);
        begins = place_at nodes k from begins;
        ahead = record {
          next = j;
          edge = on.0;
          ahead = before_ranked order ranks k j ranked on.1;
          ends = place_at nodes j onto ends;
        };
      })
      (back.only from.place onto.place there)

  -- edges that go on lead by others
  lead_beside : AreClear row order nodes edges → (k last : ℕ) (from to : Node) (through : List ℕ)
      → slice_get nodes k ≡ Some from → slice_get nodes last ≡ Some to → LeadBy (GoesOn row order) k through last
      → LeadBy (IsFreeBeside loads notes edges) from (those_at nodes through) to
  lead_beside is_clear k last from to [] at ends lead = same_Some from to (sym at ∙ ap (slice_get nodes) lead ∙ ends)
  lead_beside is_clear k last from to (next ∷ nexts) at ends lead =
      let edge = (rows k from at).free next lead.0.0 in
      subst (λ (xs : List Node). LeadBy (IsFreeBeside loads notes edges) from xs to)
      (sym (those_first nodes next edge.0 nexts edge.1)) (
        (edge.2, is_clear k next from edge.0 lead.0 at edge.1),
        lead_beside is_clear next last edge.0 to nexts edge.1 ends lead.1,
      )

  led_back : AreClear row order nodes edges → (from onto : ℕ) → Contains edges (from, onto)
      → IsNeeded loads notes start edges (from, onto)
  led_back is_clear from onto there =
      let is = back.only from onto there in
      let at = node_at nodes is.node from is.begins in
      let edge = (rows is.node at.0 at.1).free is.behind.next is.behind.edge in
      let ends : edge.0.place ≡ onto =
      same_Some edge.0.place onto (sym (place_at nodes is.behind.next edge.0 edge.1) ∙ is.behind.ends) in
      elim (arranged.placed is.node is.behind.next (arranged.all is.node is.early) is.behind.edge) [
        | inl before ↦ absurd
            (omega (arith, is.behind.back, before_ranked order ranks is.node is.behind.next ranked before))
        | inr lead ↦ record {
          first = edge.0;
          others = those_at nodes lead.0;
          within = reached_only loads notes start nodes are edge.0
              (contains_from_get nodes is.behind.next edge.0 edge.1);
          closed = subst
              (λ (pair : ℕ × ℕ). LeadRound (IsFreeBut loads notes edges pair) edge.0 edge.0 (those_at nodes lead.0))
              (ap (λ (n : ℕ). (n, edge.0.place)) at.2 ∙ ap (λ (n : ℕ). (from, n)) ends)
              (round_back loads notes edges at.0 edge.0 edge.0 (those_at nodes lead.0)
              (lead_beside is_clear is.behind.next is.node edge.0 at.0 lead.0 edge.1 at.1 lead.1) edge.2);
        }
      ]

  -- an edge beside these leads to a higher rank
  rises : (k j : ℕ) (from onto : Node) → slice_get nodes k ≡ Some from → slice_get nodes j ≡ Some onto
      → IsFreeBeside loads notes edges from onto → slice_index ranks k < slice_index ranks j
  rises k j from onto begins ends beside =
      elim (cases_lt (slice_index ranks k) (slice_index ranks j)) [
        | inl less ↦ less
        | inr low ↦ absurd (beside.1 (back.all from.place onto.place
            (found.all from.place
            (from.ways, reached_only loads notes start nodes are from (contains_from_get nodes k from begins)))
            (record {
              node = k;
              early = omega (arith, slice_get_within nodes k from begins, long);
              begins = place_at nodes k from begins;
              behind = record {
                next = j;
                edge = (rows k from begins).all j onto ends beside.0;
                back = low;
                ends = place_at nodes j onto ends;
              };
            })))
      ]

  round_rises : (head k : ℕ) (first from : Node) (others : List Node) → slice_get nodes head ≡ Some first
      → slice_get nodes k ≡ Some from → LeadRound (IsFreeBeside loads notes edges) first from others
      → slice_index ranks k < slice_index ranks head
  round_rises head k first from [] heads begins round = rises k head from first begins heads round
  round_rises head k first from (onto ∷ others) heads begins round =
      let next : (j : ℕ) × (slice_get nodes j ≡ Some onto) =
      contains_at nodes onto (has_reached loads notes start nodes are onto
      (reached_next loads notes start from onto
      (reached_only loads notes start nodes are from (contains_from_get nodes k from begins)) round.0.0.0)) in
      let less = rises k next.0 from onto begins next.1 round.0 in
      let more = round_rises head next.0 first onto others heads next.1 round.1 in
      omega (arith, less, more)

  -- these edges are enough
  pub enough : AreEnough loads notes start edges
  enough first others is_node closed =
      let at : (k : ℕ) × (slice_get nodes k ≡ Some first) =
      contains_at nodes first (has_reached loads notes start nodes are first is_node) in
      let less = round_rises at.0 at.0 first first others at.1 at.1 closed in
      omega (arith, less)

  pub closes : AreClear row order nodes edges → AreClosing loads notes start edges
  closes is_clear = record {
    needed = λ edge there. led_back is_clear edge.0 edge.1 there;
    enough = enough;
    apart = back.apart;
  }

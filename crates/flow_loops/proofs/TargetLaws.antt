-- The locations that edges lead back to.
use Rattle.std.proofs.Common.{◌≡◌, ℕ, ◌+◌, ◌<◌, ◌≤◌, List, ◌∷◌, ◌++◌, Some, ap, sym, ◌∙◌, subst, inl, inr, ◌⊎◌, []}
use Rattle.std.proofs.Common.{arith, length, slice_index_or}
use Rattle.std.specs.Prelude.{slice_get, slice_index, Contains}
use Rattle.std.proofs.lemmas.Bool.{cases_lt}
use Rattle.std.proofs.lemmas.List.Elements.{Contains-append_left, Contains-get_or, Contains-push, Contains-push_cases}
use Rattle.std.proofs.lemmas.Option.{same_Some}
use Rattle.base_graphs.specs.declared.graph.Graph.{Graph}
use Rattle.base_graphs.specs.Graph.{row, size}
use Rattle.base_graphs.proofs.Lists.{contains_cases, contains_here, contains_none}
use Rattle.flow_graph.specs.Executed.{with_new}
use Rattle.flow_graph.proofs.Orders.{with_new_has, with_new_only}
use Rattle.flow_loops.specs.Closing.{IsBehind, AreAdded, IsBack, AreTargets}
use Rattle.flow_loops.proofs.Reachings.{stays}

-- a node of the row is one of the graph's
pub row_inside : (graph : Graph) (node k : ℕ) (items : List ℕ) → items ≡ row graph node → k < length items
    → slice_index_or items k 0 < size graph
row_inside graph node k items is below =
    graph.within node (slice_index_or items k 0)
    (subst (λ (nodes : List ℕ). Contains nodes (slice_index_or items k 0)) is (Contains-get_or items k 0 below))

-- so it has a rank
pub row_ranked : (graph : Graph) (node k : ℕ) (items ranks : List ℕ) → items ≡ row graph node → k < length items
    → length ranks ≡ size graph → slice_index_or items k 0 < length ranks
row_ranked graph node k items ranks is below all = omega (arith, row_inside graph node k items is below, all)

module _ (row ranks places : List ℕ) (node : ℕ) (before after : List ℕ) (next : ℕ)
    (added : AreAdded row ranks places node before after) where
  behind_longer : (onto : ℕ) → IsBehind row ranks places node onto → IsBehind (row ++ next ∷ []) ranks places node onto
  behind_longer onto is = record {
    next = is.next;
    edge = Contains-append_left row (next ∷ []) is.next is.edge;
    back = is.back;
    ends = is.ends;
  }

  longer_only : (onto : ℕ) → Contains after onto
      → Contains before onto ⊎ IsBehind (row ++ next ∷ []) ranks places node onto
  longer_only onto there =
      elim (added.only onto there) [ inl was ↦ inl was | inr is ↦ inr (behind_longer onto is) ]

  behind_before : (onto : ℕ) (is : IsBehind (row ++ next ∷ []) ranks places node onto) → Contains row is.next
      → IsBehind row ranks places node onto
  behind_before onto is earlier = record { next = is.next; edge = earlier; back = is.back; ends = is.ends }

  -- one more node of a row that isn't behind
  pub added_above : slice_index ranks node < slice_index ranks next
      → AreAdded (row ++ next ∷ []) ranks places node before after
  added_above above = record {
    kept = added.kept;
    all = λ onto is. elim (Contains-push_cases row next is.next is.edge) [
      | inl earlier ↦ added.all onto (behind_before onto is earlier)
      | inr same ↦ absurd (omega (arith, above, is.back, ap (λ (n : ℕ). slice_index ranks n) same))
    ];
    only = longer_only;
  }

  -- and one that is
  pub added_more : (place : ℕ) → slice_get places next ≡ Some place → slice_index ranks next ≤ slice_index ranks node
      → AreAdded (row ++ next ∷ []) ranks places node before (with_new after (place ∷ []))
  added_more place at low = record {
    kept = λ onto there. stays after (place ∷ []) onto (added.kept onto there);
    all = λ onto is. elim (Contains-push_cases row next is.next is.edge) [
      | inl earlier ↦ stays after (place ∷ []) onto (added.all onto (behind_before onto is earlier))
      | inr same ↦ (let one : place ≡ onto = same_Some place onto (sym at ∙ ap (slice_get places) same ∙ is.ends) in
          subst (λ (p : ℕ). Contains (with_new after (place ∷ [])) p) one
          (with_new_has after (place ∷ []) place (contains_here place [])))
    ];
    only = λ onto there. elim (with_new_only after (place ∷ []) onto there) [
      | inl was ↦ longer_only onto was
      | inr new ↦ (elim (contains_cases place onto [] new) [
        | inl same ↦ inr (record {
          next = next;
          edge = Contains-push row next;
          back = low;
          ends = at ∙ ap Some same;
        })
        | inr none ↦ absurd (contains_none onto none)
      ])
    ];
  }

module _ (row : ℕ → List ℕ) (ranks places : List ℕ) (k from : ℕ) (targets : List ℕ)
    (before : AreTargets row ranks places k from targets) where
  later : (onto : ℕ) → IsBack row ranks places k from onto → IsBack row ranks places (k + 1) from onto
  later onto is =
      record { node = is.node; early = omega (arith, is.early); begins = is.begins; behind = is.behind }

  last_or_before : (onto : ℕ) → IsBack row ranks places (k + 1) from onto
      → Contains targets onto ⊎ ((slice_get places k ≡ Some from) × IsBehind (row k) ranks places k onto)
  last_or_before onto is = elim (cases_lt is.node k) [
    | inl early ↦ inl (before.all onto
        (record { node = is.node; early = early; begins = is.begins; behind = is.behind }))
    | inr late ↦ (let same : is.node ≡ k = omega (arith, late, is.early) in
        inr (
          subst (λ (n : ℕ). slice_get places n ≡ Some from) same is.begins,
          subst (λ (n : ℕ). IsBehind (row n) ranks places n onto) same is.behind,
        ))
  ]

  -- one more node, at another location
  pub targets_other : (place : ℕ) → slice_get places k ≡ Some place → (place ≡ from → ⊥)
      → AreTargets row ranks places (k + 1) from targets
  targets_other place at other = record {
    only = λ onto there. later onto (before.only onto there);
    all = λ onto is. elim (last_or_before onto is) [
      | inl there ↦ there
      | inr last ↦ absurd (other (same_Some place from (sym at ∙ last.0)))
    ];
  }

  -- one more node at this location
  pub targets_more : (more : List ℕ) → slice_get places k ≡ Some from → AreAdded (row k) ranks places k targets more
      → AreTargets row ranks places (k + 1) from more
  targets_more more at added = record {
    only = λ onto there. elim (added.only onto there) [
      | inl was ↦ later onto (before.only onto was)
      | inr is ↦ record { node = k; early = omega arith; begins = at; behind = is }
    ];
    all = λ onto is.
        elim (last_or_before onto is) [ inl there ↦ added.kept onto there | inr last ↦ added.all onto last.1 ];
  }

-- Rows of the nodes that links lead to.
use Rattle.std.proofs.Common.{◌≡◌, ℕ, ◌<◌, List, ◌∷◌, ◌++◌, length, Option, Some, ap, sym, ◌∙◌, subst, inl, inr, arith, []}
use Rattle.std.specs.Prelude.{slice_get, Contains, Vec}
use Rattle.std.specs.declared.alloc.Global.{Global}
use Rattle.std.proofs.lemmas.List.Elements.{Contains-append_left, Contains-push, Contains-push_cases}
use Rattle.std.proofs.lemmas.Option.{slice_get_within}
use Rattle.base_words.specs.declared.word.Word.{Word}
use Rattle.base_notes.specs.Allowed.{Notes}
use Rattle.base_graphs.specs.Graph.{AreDifferent}
use Rattle.base_graphs.specs.Rows.{targets_in, AreWithin}
use Rattle.base_graphs.proofs.Lists.{contains_cases, contains_from_get, contains_here, contains_none, one_place}
use Rattle.flow_graph.specs.Executed.{onward, successors, with_new}
use Rattle.flow_graph.specs.Hops.{Node}
use Rattle.flow_graph.proofs.Links.{in_all, link_there, node_linked, of_all}
use Rattle.flow_acceptance.proofs.FreeRows.{onward_place, some_at}
use Rattle.flow_loops.specs.Links.{AreLinkRows, IsLinkRow, IsOnwardRow}
use Rattle.flow_loops.proofs.Besides.{row_none}

module _ (notes : Notes) (nodes : List Node) (targets : List ℕ) (from : Node) (row : List ℕ) (onto : ℕ)
    (before : IsOnwardRow notes nodes targets from row) where
  widened : (index : ℕ) → Contains row index → (other : Node) × (slice_get nodes index ≡ Some other)
      × Contains (targets ++ onto ∷ []) other.place × Contains (onward notes from other.place) other
  widened index there =
      let was = before.only index there in
      (was.0, was.1, Contains-append_left targets (onto ∷ []) was.0.place was.2, was.3)

  -- a target that no step leads to
  pub row_absent : ((next : Node) → Contains nodes next → ¬ Contains (onward notes from onto) next)
      → IsOnwardRow notes nodes (targets ++ onto ∷ []) from row
  row_absent absent = record {
    only = widened;
    all = λ index other here target leads. elim (Contains-push_cases targets onto other.place target) [
      | inl earlier ↦ before.all index other here earlier leads
      | inr same ↦ absurd (absent other (contains_from_get nodes index other here)
          (subst (λ (p : ℕ). Contains (onward notes from p) other) (sym same) leads))
    ];
  }

  -- and one that a step leads to
  pub row_more : (index : ℕ) (next : Node) → AreDifferent nodes → slice_get nodes index ≡ Some next
      → onward notes from onto ≡ next ∷ []
      → IsOnwardRow notes nodes (targets ++ onto ∷ []) from (row ++ index ∷ [])
  row_more index next different here goes = record {
    only = λ one there. elim (Contains-push_cases row index one there) [
      | inl earlier ↦ widened one earlier
      | inr same ↦ (next, ap (slice_get nodes) (sym same) ∙ here, own.0, own.1)
    ];
    all = λ one other at target leads. elim (Contains-push_cases targets onto other.place target) [
      | inl earlier ↦ Contains-append_left row (index ∷ []) one (before.all one other at earlier leads)
      | inr same ↦ (let equal : index ≡ one =
          one_place nodes index one next different here (at ∙ ap Some (sym (only other (subst
          (λ (p : ℕ). Contains (onward notes from p) other) (sym same) leads)))) in
          subst (λ (p : ℕ). Contains (row ++ index ∷ []) p) equal (Contains-push row index))
    ];
  }
    where
      itself : Contains (onward notes from onto) next
      itself = subst (λ (ns : List Node). Contains ns next) (sym goes) (contains_here next [])

      own : Contains (targets ++ onto ∷ []) next.place × Contains (onward notes from next.place) next
      own = subst (λ (p : ℕ). Contains (targets ++ onto ∷ []) p × Contains (onward notes from p) next)
          (sym (onward_place notes from next onto itself)) (Contains-push targets onto, itself)

      only : (other : Node) → Contains (onward notes from onto) other → next ≡ other
      only other there =
          elim (contains_cases next other [] (subst (λ (ns : List Node). Contains ns other) goes there)) [
            | inl same ↦ same
            | inr none ↦ absurd (contains_none other none)
          ]

-- where the targets are the successors of the node's location
pub row_linked : (loads : ℕ → Option Word) (notes : Notes) (nodes : List Node) (targets : List ℕ) (from : Node)
    (row : List ℕ) → targets ≡ with_new [] (successors loads notes from.place)
    → IsOnwardRow notes nodes targets from row → IsLinkRow loads notes nodes from row
row_linked loads notes nodes targets from row all leads = record {
  only = λ index there.
      let was = leads.only index there in (
        was.0,
        was.1,
        node_linked loads notes from was.0
            (in_all (onward notes from) (with_new [] (successors loads notes from.place)) was.0.place was.0
            (subst (λ (xs : List ℕ). Contains xs was.0.place) all was.2) was.3),
      );
  all = λ index onto here link.
      let one = of_all (onward notes from) (with_new [] (successors loads notes from.place)) onto
      (link_there loads notes from onto link) in
      let place : onto.place ≡ one.0 = onward_place notes from onto one.0 one.2 in
      leads.all index onto here
      (subst (λ (xs : List ℕ). Contains xs onto.place) (sym all)
      (subst (λ (p : ℕ). Contains (with_new [] (successors loads notes from.place)) p) (sym place) one.1))
      (subst (λ (p : ℕ). Contains (onward notes from p) onto) (sym place) one.2);
}

-- the rows lead to nodes that have rows
pub links_within : (loads : ℕ → Option Word) (notes : Notes) (nodes : List Node) (rows : List (Vec ℕ Global))
    → length rows ≡ length nodes → AreLinkRows loads notes nodes (targets_in rows) → AreWithin rows
links_within loads notes nodes rows long links node next there =
    let below : node < length rows = row_none rows node next there in
    let at = some_at nodes node (omega (arith, below, long)) in
    let found = (links node at.0 at.1).only next there in
    omega (arith, slice_get_within nodes next found.0 found.1, long)

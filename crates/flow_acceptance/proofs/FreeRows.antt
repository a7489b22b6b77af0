-- Rows of the nodes that edges free of marks lead to.
use Rattle.std.proofs.Common.{◌≡◌, ℕ, zero, suc, ◌+◌, ◌<◌, ◌≤◌, Bool, true, false, List, [], ◌∷◌, ◌++◌, length}
use Rattle.std.proofs.Common.{Option, Some, refl, ap, sym, ◌∙◌, subst, inl, inr, arith}
use Rattle.std.proofs.lemmas.Bool.{cases_lt}
use Rattle.std.proofs.lemmas.Option.{same_Some, slice_get_within}
use Rattle.std.specs.Prelude.{Vec, if◌then◌else◌}
use Rattle.std.specs.declared.alloc.Global.{Global}
use Rattle.std.specs.Prelude.{slice_get, Contains, IsNone, is_some}
use Rattle.std.proofs.lemmas.List.Elements.{Contains-append_left, Contains-push, Contains-push_cases}
use Rattle.base_words.specs.declared.word.Word.{Word}
use Rattle.base_notes.specs.Allowed.{Notes}
use Rattle.base_notes.specs.Marks.{mark_on}
use Rattle.machine_steps.specs.Calls.{open_after}
use Rattle.base_graphs.specs.Rows.{targets_in, AreWithin}
use Rattle.base_graphs.specs.Graph.{AreDifferent}
use Rattle.base_graphs.proofs.Lists.{contains_cases, contains_from_get, contains_here, contains_none, one_place}
use Rattle.flow_graph.specs.Executed.{may_go, onward, successors, with_new}
use Rattle.flow_graph.specs.Hops.{edge_between, Node}
use Rattle.flow_graph.proofs.Links.{in_all, link_there, node_linked, of_all}
use Rattle.flow_acceptance.specs.Free.{IsFreeRow, IsUnmarkedRow, IsUnmarkedTo, AreFreeRows}

-- a list has a member below its length
pub some_at : {X : Type 0} (xs : List X) (k : ℕ) → k < length xs → (x : X) × (slice_get xs k ≡ Some x)
some_at [] k below = absurd (omega (arith, below))
some_at (x ∷ xs) zero below = (x, refl)
some_at (x ∷ xs) (suc k) below = some_at xs k (omega (arith, below))

-- a step along an edge leads to its location
pub onward_place : (notes : Notes) (from next : Node) (onto : ℕ) → Contains (onward notes from onto) next
    → next.place ≡ onto
onward_place notes from next onto there = go (may_go notes.calls from.ways (edge_between from.place onto)) there
  where
    made : Node
    made = record { place = onto; ways = open_after notes.calls (edge_between from.place onto) from.ways }

    go : (may : Bool) → Contains (if may then made ∷ [] else []) next → next.place ≡ onto
    go true here = elim (contains_cases made next [] here) [
      | inl same ↦ sym (ap (λ (n : Node). n.place) same)
      | inr none ↦ absurd (contains_none next none)
    ]
    go false here = absurd (contains_none next here)

module _ (notes : Notes) (nodes : List Node) (targets : List ℕ) (from : Node) (row : List ℕ) (onto : ℕ)
    (before : IsUnmarkedRow notes nodes targets from row) where
  widened : (index : ℕ) → Contains row index → (other : Node) × (slice_get nodes index ≡ Some other)
      × IsUnmarkedTo notes (targets ++ onto ∷ []) from other
  widened index there =
      let was = before.free index there in
      (was.0, was.1, (Contains-append_left targets (onto ∷ []) was.0.place was.2.0, was.2.1, was.2.2))

  -- a target that a mark stands before
  pub row_marked : is_some (mark_on notes.marks from.place onto) ≡ true
      → IsUnmarkedRow notes nodes (targets ++ onto ∷ []) from row
  row_marked marked = record {
    free = widened;
    all = λ index other here to. elim (Contains-push_cases targets onto other.place to.0) [
      | inl earlier ↦ before.all index other here (earlier, to.1, to.2)
      | inr same ↦ (let clash : ◌≡◌ {A = Bool} true false = sym marked
          ∙ ap (λ (n : ℕ). is_some (mark_on notes.marks from.place n)) same ∙ to.1 in cc)
    ];
  }

  -- one that no step leads to
  pub row_absent : ((next : Node) → Contains nodes next → ¬ Contains (onward notes from onto) next)
      → IsUnmarkedRow notes nodes (targets ++ onto ∷ []) from row
  row_absent absent = record {
    free = widened;
    all = λ index other here to. elim (Contains-push_cases targets onto other.place to.0) [
      | inl earlier ↦ before.all index other here (earlier, to.1, to.2)
      | inr same ↦ absurd (absent other (contains_from_get nodes index other here)
          (subst (λ (p : ℕ). Contains (onward notes from p) other) (sym same) to.2))
    ];
  }

  -- and one that a step leads to, free of marks
  pub row_more : (index : ℕ) (next : Node) → AreDifferent nodes → slice_get nodes index ≡ Some next
      → onward notes from onto ≡ next ∷ [] → is_some (mark_on notes.marks from.place onto) ≡ false
      → IsUnmarkedRow notes nodes (targets ++ onto ∷ []) from (row ++ index ∷ [])
  row_more index next different here leads unmarked = record {
    free = λ one there. elim (Contains-push_cases row index one there) [
      | inl earlier ↦ widened one earlier
      | inr same ↦ (next, ap (slice_get nodes) (sym same) ∙ here, own)
    ];
    all = λ one other at to. elim (Contains-push_cases targets onto other.place to.0) [
      | inl earlier ↦ Contains-append_left row (index ∷ []) one (before.all one other at (earlier, to.1, to.2))
      | inr same ↦ (let equal : index ≡ one =
          one_place nodes index one next different here (at ∙ ap Some (sym (only other (subst
          (λ (p : ℕ). Contains (onward notes from p) other) (sym same) to.2)))) in
          subst (λ (p : ℕ). Contains (row ++ index ∷ []) p) equal (Contains-push row index))
    ];
  }
    where
      itself : Contains (onward notes from onto) next
      itself = subst (λ (ns : List Node). Contains ns next) (sym leads) (contains_here next [])

      place : next.place ≡ onto
      place = onward_place notes from next onto itself

      own : IsUnmarkedTo notes (targets ++ onto ∷ []) from next
      own = subst (λ (p : ℕ). Contains (targets ++ onto ∷ []) p × IsNone (mark_on notes.marks from.place p)
          × Contains (onward notes from p) next) (sym place) (Contains-push targets onto, unmarked, itself)

      only : (other : Node) → Contains (onward notes from onto) other → next ≡ other
      only other there =
          elim (contains_cases next other [] (subst (λ (ns : List Node). Contains ns other) leads there)) [
            | inl same ↦ same
            | inr none ↦ absurd (contains_none other none)
          ]

-- where the targets are the successors of the node's location
pub row_free : (loads : ℕ → Option Word) (notes : Notes) (nodes : List Node) (targets : List ℕ) (from : Node)
    (row : List ℕ) → targets ≡ with_new [] (successors loads notes from.place)
    → IsUnmarkedRow notes nodes targets from row → IsFreeRow loads notes nodes from row
row_free loads notes nodes targets from row all unmarked = record {
  free = λ index there.
      let was = unmarked.free index there in (
        was.0,
        was.1,
        (
          node_linked loads notes from was.0
              (in_all (onward notes from) (with_new [] (successors loads notes from.place)) was.0.place was.0
              (subst (λ (xs : List ℕ). Contains xs was.0.place) all was.2.0) was.2.2),
          was.2.1,
        ),
      );
  all = λ index onto here free.
      let from_one = of_all (onward notes from) (with_new [] (successors loads notes from.place)) onto
      (link_there loads notes from onto free.0) in
      let place : onto.place ≡ from_one.0 = onward_place notes from onto from_one.0 from_one.2 in
      unmarked.all index onto here (
        subst (λ (xs : List ℕ). Contains xs onto.place) (sym all)
            (subst (λ (p : ℕ). Contains (with_new [] (successors loads notes from.place)) p) (sym place) from_one.1),
        free.1,
        subst (λ (p : ℕ). Contains (onward notes from p) onto) (sym place) from_one.2,
      );
}

-- the rows with one more
row_of_more : (rows : List (Vec ℕ Global)) (more : Vec ℕ Global) (place : ℕ) → place < length rows
    → targets_in (rows ++ more ∷ []) place ≡ targets_in rows place
row_of_more [] more place inside = absurd (omega (arith, inside))
row_of_more (one ∷ rows) more zero inside = refl
row_of_more (one ∷ rows) more (suc place) inside = row_of_more rows more place (omega (arith, inside))

row_of_last : (rows : List (Vec ℕ Global)) (more : Vec ℕ Global) (place : ℕ) → place ≡ length rows
    → targets_in (rows ++ more ∷ []) place ≡ more.items
row_of_last [] more zero last = refl
row_of_last [] more (suc place) last = absurd (omega (arith, last))
row_of_last (one ∷ rows) more zero last = absurd (omega (arith, last))
row_of_last (one ∷ rows) more (suc place) last = row_of_last rows more place (omega (arith, last))

row_past : (rows : List (Vec ℕ Global)) (place : ℕ) → length rows ≤ place → targets_in rows place ≡ []
row_past [] place past = refl
row_past (one ∷ rows) zero past = absurd (omega (arith, past))
row_past (one ∷ rows) (suc place) past = row_past rows place (omega (arith, past))

-- the rows of one more node
pub rows_more : (loads : ℕ → Option Word) (notes : Notes) (nodes : List Node) (rows : List (Vec ℕ Global))
    (more : Vec ℕ Global) (k : ℕ) (node : Node) → length rows ≡ k
    → ((index : ℕ) (from : Node) → index < k → slice_get nodes index ≡ Some from
    → IsFreeRow loads notes nodes from (targets_in rows index))
    → slice_get nodes k ≡ Some node → IsFreeRow loads notes nodes node more.items
    → (index : ℕ) (from : Node) → index < k + 1 → slice_get nodes index ≡ Some from
    → IsFreeRow loads notes nodes from (targets_in (rows ++ more ∷ []) index)
rows_more loads notes nodes rows more k node long before here last index from lt at = elim (cases_lt index k) [
  | inl earlier ↦ subst (IsFreeRow loads notes nodes from)
      (sym (row_of_more rows more index (omega (arith, earlier, long)))) (before index from earlier at)
  | inr later ↦ (let same : index ≡ k = omega (arith, lt, later) in
      let one : node ≡ from = same_Some node from (sym here ∙ ap (slice_get nodes) (sym same) ∙ at) in
      subst (IsFreeRow loads notes nodes from) (sym (row_of_last rows more index (omega (arith, same, long))))
      (subst (λ (n : Node). IsFreeRow loads notes nodes n more.items) one last))
]

-- the rows lead to nodes that have rows
pub rows_within : (loads : ℕ → Option Word) (notes : Notes) (nodes : List Node) (rows : List (Vec ℕ Global))
    → length rows ≡ length nodes
    → AreFreeRows loads notes nodes (targets_in rows) → AreWithin rows
rows_within loads notes nodes rows long free node next there = elim (cases_lt node (length rows)) [
  | inl inside ↦ (let at = some_at nodes node (omega (arith, inside, long)) in
      let found = (free node at.0 at.1).free next there in
      omega (arith, slice_get_within nodes next found.0 found.1, long))
  | inr past ↦ absurd (contains_none next (subst (λ (row : List ℕ). Contains row next) (row_past rows node past) there))
]

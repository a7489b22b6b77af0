-- Where the nodes of a flow graph at a location go on.
use Rattle.std.proofs.Common.{◌≡◌, ℕ, suc, ◌+◌, ◌<◌, ◌≤◌, Bool, true, false, ◌&&◌, ◌||◌, List, ◌∷◌, ◌++◌, length, map, eqb, []}
use Rattle.std.proofs.Common.{Option, Some, None, take, get_or, refl, ap, sym, ◌∙◌, subst, inl, inr, arith}
use Rattle.std.specs.Prelude.{◌⊎◌, Contains, IfNone, IfSome, filter, if◌then◌else◌, is_some, slice_get, ◌↔◌}
use Rattle.std.specs.List.{list_any}
use Rattle.std.proofs.lemmas.Bool.{and_parts, cases_lt}
use Rattle.std.proofs.lemmas.Bool.Decides.{Decides-eqb}
use Rattle.std.proofs.lemmas.List.{append-nil, append_assoc, take_all, take_more}
use Rattle.std.proofs.lemmas.List.Elements.{filter_more, Contains-push, Contains-push_cases, Contains-append_left}
use Rattle.std.proofs.lemmas.Option.{get_or_from_slice_get, same_Some, slice_get-get_or, slice_get_within}
use Rattle.base_words.specs.declared.word.Word.{Word}
use Rattle.base_notes.specs.declared.notes.call.Call.{Call}
use Rattle.base_notes.specs.Allowed.{Notes}
use Rattle.machine_steps.specs.Calls.{open_after}
use Rattle.base_graphs.specs.Graph.{AreDifferent}
use Rattle.base_graphs.proofs.Lists.{contains_cases, contains_from_get, contains_here, contains_none, contains_there}
use Rattle.flow_graph.specs.Executed.{each_place, may_go, onward, successors, with_new, AreAllNodes}
use Rattle.flow_graph.specs.Flow.{AreFound}
use Rattle.flow_graph.specs.Hops as flow
use Rattle.flow_graph.specs.Hops.{edge_between, hops, IsEdge, IsLink, IsNode}
use Rattle.flow_graph.specs.Taken.{is_taken, may_go_on}
use Rattle.flow_graph.proofs.Additions.{with_new_append}
use Rattle.flow_graph.proofs.InNodesLaws.{one_onward}
use Rattle.flow_graph.proofs.Links.{may_go_law}
use Rattle.flow_graph.proofs.Orders.{any_contains, has_reached, hop_there, node_of_place, reached_next, reached_only, target_there}
use Rattle.flow_graph.proofs.Orders.{with_new_has, with_new_only}
use Rattle.flow_acceptance.proofs.Acceptances.{one_reached}
use Rattle.print_graphs.specs.Graph.{nexts}
use Rattle.print_graphs.specs.GraphOf.{AreAt}

-- a test that a member passes is passed by some, and one that none passes isn't
pub some_passes : {X : Type 0} (test : X → Bool) (xs : List X) (x : X) → Contains xs x → test x ≡ true
    → list_any test xs ≡ true
some_passes test [] x there passes = absurd (contains_none x there)
some_passes test (one ∷ xs) x there passes = elim (contains_cases one x xs there) [
  | inl same ↦ ap (λ (b : Bool). b || list_any test xs) (ap test same ∙ passes)
  | inr behind ↦ (ap (λ (b : Bool). test one || b) (some_passes test xs x behind passes) ∙ either (test one))
]
  where
    either : (b : Bool) → (b || true) ≡ true
    either true = refl
    either false = refl

pub none_passes : {X : Type 0} (test : X → Bool) (xs : List X)
    → ((k : ℕ) (x : X) → slice_get xs k ≡ Some x → test x ≡ false) → list_any test xs ≡ false
none_passes test [] none = refl
none_passes test (x ∷ xs) none =
    ap (λ (b : Bool). b || list_any test xs) (none 0 x refl)
    ∙ none_passes test xs (λ k one at. none (suc k) one at)

-- one that some pass is passed by a member
pub one_that_passes : {X : Type 0} (test : X → Bool) (xs : List X) → list_any test xs ≡ true
    → (x : X) × Contains xs x × (test x ≡ true)
one_that_passes test [] some = cc
one_that_passes {X} test (one ∷ xs) some = go (test one) refl some (one_that_passes test xs)
  where
    go : (b : Bool) → test one ≡ b → (b || list_any test xs) ≡ true
        → (list_any test xs ≡ true → (x : X) × Contains xs x × (test x ≡ true))
        → (x : X) × Contains (one ∷ xs) x × (test x ≡ true)
    go true is some further = (one, contains_here one xs, is)
    go false is some further = (let found = further some in
        (found.0, contains_there one found.0 xs found.1, found.2))

-- members that pass a test are kept, and no others
pub kept : {X : Type 0} (test : X → Bool) (xs : List X) (x : X) → Contains xs x → test x ≡ true
    → Contains (filter test xs) x
kept test [] x there passes = absurd (contains_none x there)
kept {X} test (one ∷ xs) x there passes =
    go (test one) refl (contains_cases one x xs there) (λ behind. kept test xs x behind passes)
  where
    go : (b : Bool) → test one ≡ b → (one ≡ x) ⊎ Contains xs x → (Contains xs x → Contains (filter test xs) x)
        → Contains (if b then one ∷ filter test xs else filter test xs) x
    go true is (inl same) further =
        subst (λ (y : X). Contains (one ∷ filter test xs) y) same (contains_here one (filter test xs))
    go true is (inr behind) further = contains_there one x (filter test xs) (further behind)
    go false is (inl same) further = (let clash : ◌≡◌ {A = Bool} false true = sym is ∙ ap test same ∙ passes in cc)
    go false is (inr behind) further = further behind

pub only_kept : {X : Type 0} (test : X → Bool) (xs : List X) (x : X) → Contains (filter test xs) x
    → Contains xs x × (test x ≡ true)
only_kept test [] x there = absurd (contains_none x there)
only_kept {X} test (one ∷ xs) x there = go (test one) refl there (only_kept test xs x)
  where
    behind : Contains xs x × (test x ≡ true) → Contains (one ∷ xs) x × (test x ≡ true)
    behind more = (contains_there one x xs more.0, more.1)

    go : (b : Bool) → test one ≡ b → Contains (if b then one ∷ filter test xs else filter test xs) x
        → (Contains (filter test xs) x → Contains xs x × (test x ≡ true)) → Contains (one ∷ xs) x × (test x ≡ true)
    go true is there further = elim (contains_cases one x (filter test xs) there) [
      | inl same ↦ (
        subst (λ (y : X). Contains (one ∷ xs) y) same (contains_here one xs),
        ap test (sym same) ∙ is,
      )
      | inr later ↦ behind (further later)
    ]
    go false is there further = behind (further there)

-- different members stay different
pub kept_different : {X : Type 0} (test : X → Bool) (xs : List X) → AreDifferent xs → AreDifferent (filter test xs)
kept_different test [] apart = tt
kept_different {X} test (one ∷ xs) apart = go (test one) (kept_different test xs apart.1)
  where
    go : (b : Bool) → AreDifferent (filter test xs) → AreDifferent (if b then one ∷ filter test xs else filter test xs)
    go true behind = (λ there. apart.0 (only_kept test xs one there).0, behind)
    go false behind = behind

-- none of them is there yet, so all are put behind
all_new : (places xs : List ℕ) → ((x : ℕ) → Contains xs x → ¬ Contains places x) → AreDifferent xs
    → with_new places xs ≡ places ++ xs
all_new places [] new apart = sym (append-nil places)
all_new places (x ∷ xs) new apart =
    ap (λ (b : Bool). if b then with_new places xs else with_new (places ++ x ∷ []) xs)
    (absent (list_any (λ one. eqb one x) places) refl)
    ∙ all_new (places ++ x ∷ []) xs
    (λ y there here. elim (Contains-push_cases places x y here) [
      | inl before ↦ new y (contains_there x y xs there) before
      | inr same ↦ apart.0 (subst (λ (z : ℕ). Contains xs z) (sym same) there)
    ]) apart.1
    ∙ append_assoc places (x ∷ []) xs
  where
    absent : (b : Bool) → list_any (λ one. eqb one x) places ≡ b → b ≡ false
    absent true is = absurd (new x (contains_here x xs) (any_contains places x is))
    absent false is = refl

-- those of the first places that pass a test, and one place more
module _ (test : ℕ → Bool) (places : List ℕ) (k next : ℕ) (at : slice_get places k ≡ Some next) where
  more_kept : filter test (take (k + 1) places)
      ≡ filter test (take k places) ++ (if test next then next ∷ [] else [])
  more_kept =
      filter_more test places k next (slice_get_within places k next at)
      ∙ ap (λ (n : ℕ). filter test (take k places) ++ (if test n then n ∷ [] else []))
      (get_or_from_slice_get places k next next at)

  pub one_kept : (now after : List ℕ) → now ≡ with_new [] (filter test (take k places)) → test next ≡ true
      → after ≡ with_new now (next ∷ []) → after ≡ with_new [] (filter test (take (k + 1) places))
  one_kept now after so_far passes added =
      added ∙ ap (λ (xs : List ℕ). with_new xs (next ∷ [])) so_far
      ∙ sym (with_new_append [] (filter test (take k places)) (next ∷ []))
      ∙ ap (λ (b : Bool). with_new [] (filter test (take k places) ++ (if b then next ∷ [] else []))) (sym passes)
      ∙ ap (with_new []) (sym more_kept)

  pub none_kept : (now : List ℕ) → now ≡ with_new [] (filter test (take k places)) → test next ≡ false
      → now ≡ with_new [] (filter test (take (k + 1) places))
  none_kept now so_far fails =
      so_far ∙ ap (with_new []) (sym (append-nil (filter test (take k places))))
      ∙ ap (λ (b : Bool). with_new [] (filter test (take k places) ++ (if b then next ∷ [] else []))) (sym fails)
      ∙ ap (with_new []) (sym more_kept)

-- once all places were looked at, these are those that pass
pub all_kept : (test : ℕ → Bool) (places now : List ℕ) (k : ℕ) → AreDifferent places → length places ≤ k
    → now ≡ with_new [] (filter test (take k places)) → now ≡ filter test places
all_kept test places now k apart past so_far =
    so_far ∙ ap (λ (xs : List ℕ). with_new [] (filter test xs)) (take_all k places past)
    ∙ all_new [] (filter test places) (λ x there none. contains_none x none) (kept_different test places apart)

-- the indices of the nodes at a location, of the first ones
module _ (nodes : List flow.Node) (place : ℕ) where
  module _ (k : ℕ) (indices : List ℕ) (so_far : AreAt nodes k place indices) (node : flow.Node)
      (at : slice_get nodes k ≡ Some node) where
    itself : (index : ℕ) → index < k + 1 → k ≤ index → index ≡ k
    itself index below past = omega (arith, below, past)

    pub more_at : node.place ≡ place → AreAt nodes (k + 1) place (indices ++ k ∷ [])
    more_at there = record {
      only = λ index has. elim (Contains-push_cases indices k index has) [
        | inl before ↦ so_far.only index before
        | inr is ↦ (node, ap (λ (n : ℕ). slice_get nodes n) (sym is) ∙ at, there)
      ];
      all = λ index other below here at_place. elim (cases_lt index k) [
        | inl before ↦ Contains-append_left indices (k ∷ []) index (so_far.all index other before here at_place)
        | inr past ↦ subst (λ (n : ℕ). Contains (indices ++ k ∷ []) n) (sym (itself index below past))
            (Contains-push indices k)
      ];
    }

-- a node at another location, or from which no step may go on, doesn't go on
goes_not : (notes : Notes) (place next : ℕ) (node : flow.Node)
    → (node.place ≡ place → may_go notes.calls node.ways (edge_between node.place next) ≡ false)
    → may_go_on notes place next node ≡ false
goes_not notes place next node none = go (eqb node.place place) refl
  where
    go : (b : Bool) → eqb node.place place ≡ b
        → (b && may_go notes.calls node.ways (edge_between node.place next)) ≡ false
    go true is = none ((Decides-eqb node.place place).0 is)
    go false is = refl

goes : (notes : Notes) (place next : ℕ) (node : flow.Node) → node.place ≡ place
    → may_go notes.calls node.ways (edge_between node.place next) ≡ true → may_go_on notes place next node ≡ true
goes notes place next node there may =
    ap (λ (b : Bool). b && may_go notes.calls node.ways (edge_between node.place next))
    ((Decides-eqb node.place place).1 there) ∙ may

-- a step goes on to a location from some node there, or from none of them
pub is_taken_by : (notes : Notes) (nodes : List flow.Node) (place next index : ℕ) (node : flow.Node)
    → slice_get nodes index ≡ Some node → node.place ≡ place
    → may_go notes.calls node.ways (edge_between node.place next) ≡ true → is_taken notes nodes place next ≡ true
is_taken_by notes nodes place next index node at there may =
    some_passes (may_go_on notes place next) nodes node (contains_from_get nodes index node at)
    (goes notes place next node there may)

pub is_not_taken : (notes : Notes) (nodes : List flow.Node) (place next : ℕ) (indices : List ℕ)
    → AreAt nodes (length nodes) place indices
    → ((index : ℕ) (node : flow.Node) → Contains indices index → slice_get nodes index ≡ Some node
    → may_go notes.calls node.ways (edge_between node.place next) ≡ false)
    → is_taken notes nodes place next ≡ false
is_not_taken notes nodes place next indices are none =
    none_passes (may_go_on notes place next) nodes
    (λ index node at. goes_not notes place next node
    (λ there. none index node (are.all index node (slice_get_within nodes index node at) at there) at))

-- and from one node more
pub none_more : (notes : Notes) (nodes : List flow.Node) (next : ℕ) (indices : List ℕ) (k : ℕ) (from : flow.Node)
    → k < length indices → slice_get nodes (get_or indices k 0) ≡ Some from
    → may_go notes.calls from.ways (edge_between from.place next) ≡ false
    → ((index : ℕ) (one : flow.Node) → Contains (take k indices) index → slice_get nodes index ≡ Some one
    → may_go notes.calls one.ways (edge_between one.place next) ≡ false)
    → (index : ℕ) (one : flow.Node) → Contains (take (k + 1) indices) index → slice_get nodes index ≡ Some one
    → may_go notes.calls one.ways (edge_between one.place next) ≡ false
none_more notes nodes next indices k from inside at not_from before index one has here =
    elim (Contains-push_cases (take k indices) (get_or indices k 0) index
    (subst (λ (xs : List ℕ). Contains xs index) (take_more indices k 0 inside) has)) [
      | inl earlier ↦ before index one earlier here
      | inr same ↦ (let is : from ≡ one = same_Some from one (sym at ∙ ap (λ (n : ℕ). slice_get nodes n) same ∙ here) in
          ap (λ (node : flow.Node). may_go notes.calls node.ways (edge_between node.place next)) (sym is) ∙ not_from)
    ]

-- the node of an index of those at a location
pub node_there : (nodes : List flow.Node) (count place : ℕ) (indices : List ℕ) (k : ℕ)
    → AreAt nodes count place indices → k < length indices
    → (node : flow.Node) × (slice_get nodes (get_or indices k 0) ≡ Some node) × (node.place ≡ place)
node_there nodes count place indices k are inside =
    are.only (get_or indices k 0) (contains_from_get indices k (get_or indices k 0) (slice_get-get_or indices k 0 inside))

module _ (loads : ℕ → Option Word) (notes : Notes) (start : ℕ) (nodes : List flow.Node)
    (are : AreAllNodes loads notes start nodes) where
  -- where a step may go along an edge, there is a node that it leads to
  record LeadsTo (from : flow.Node) (onto : ℕ) : Type 0 where
    pub next : flow.Node
    pub there : Contains nodes next
    pub leads : onward notes from onto ≡ next ∷ []
    pub link : IsLink loads notes from next
    pub place : next.place ≡ onto

  leads_there : (from : flow.Node) (onto : ℕ) → Contains nodes from → IsEdge loads notes from.place onto
      → may_go notes.calls from.ways (edge_between from.place onto) ≡ true → LeadsTo from onto
  leads_there from onto has edge may = record {
    next = made;
    there = has_reached loads notes start nodes are made
        (reached_next loads notes start from made (reached_only loads notes start nodes are from has) link);
    leads = one_onward notes from onto link.may;
    link = link;
    place = refl;
  }
    where
      made : flow.Node
      made = record { place = onto; ways = open_after notes.calls (edge_between from.place onto) from.ways }

      link : IsLink loads notes from made
      link = record {
        edge = edge;
        may = (may_go_law notes.calls from.ways (edge_between from.place onto)).0 may;
        behind = refl;
      }

  -- so the answer of `onward` says whether a step may go
  pub goes_as_found : (index : ℕ) (found : Option ℕ) (answer : Bool) (from : flow.Node) (onto : ℕ)
      → slice_get nodes index ≡ Some from → IsEdge loads notes from.place onto → answer ≡ is_some found
      → IfSome found (λ k. (one next : flow.Node) × (slice_get nodes index ≡ Some one) × (slice_get nodes k ≡ Some next)
      × (onward notes one onto ≡ next ∷ []))
      → IfNone found ((one next : flow.Node) → slice_get nodes index ≡ Some one → Contains nodes next
      → ¬ Contains (onward notes one onto) next)
      → answer ≡ may_go notes.calls from.ways (edge_between from.place onto)
  goes_as_found index None answer from onto at edge is some none =
      is ∙ go (may_go notes.calls from.ways (edge_between from.place onto)) refl
    where
      go : (b : Bool) → may_go notes.calls from.ways (edge_between from.place onto) ≡ b → false ≡ b
      go true may =
          let to = leads_there from onto (contains_from_get nodes index from at) edge may in
          absurd (none from to.next at to.there
          (subst (λ (xs : List flow.Node). Contains xs to.next) (sym to.leads) (contains_here to.next [])))
      go false may = refl
  goes_as_found index (Some k) answer from onto at edge is (one, next, here, there, leads) none =
      is ∙ go (may_go notes.calls from.ways (edge_between from.place onto)) refl
    where
      same : one ≡ from
      same = same_Some one from (sym here ∙ at)

      go : (b : Bool) → may_go notes.calls from.ways (edge_between from.place onto) ≡ b → true ≡ b
      go true may = refl
      go false may =
          let nowhere : onward notes from onto ≡ [] =
          ap (λ (b : Bool). if b
          then record { place = onto; ways = open_after notes.calls (edge_between from.place onto) from.ways } ∷ []
          else []) may in
          let clash : [] ≡ next ∷ [] = sym nowhere ∙ ap (λ (n : flow.Node). onward notes n onto) (sym same) ∙ leads in
          cc

  -- where the instructions of a location go on
  abbrev targets : ℕ → List ℕ
  targets place = with_new [] (successors loads notes place)

  pub target_edge : (place next : ℕ) → Contains (targets place) next → IsEdge loads notes place next
  target_edge place next there = elim (with_new_only [] (successors loads notes place) next there) [
    | inl none ↦ absurd (contains_none next none)
    | inr added ↦ hop_there (hops loads notes place) next added
  ]

  edge_target : (place next : ℕ) → IsEdge loads notes place next → Contains (targets place) next
  edge_target place next edge =
      with_new_has [] (successors loads notes place) next (target_there (hops loads notes place) edge.0 next edge.1)

  -- the arrows of a location are the links of its nodes
  pub nexts_links : (place next : ℕ) → Contains (nexts loads notes nodes place) next
      ↔ ((one other : flow.Node) × (one.place ≡ place) × (other.place ≡ next) × IsNode loads notes start one
      × IsLink loads notes one other)
  nexts_links place next = (
    λ there.
        let passes = only_kept (is_taken notes nodes place) (targets place) next there in
        let one = one_that_passes (may_go_on notes place next) nodes passes.1 in
        let node = one.0 in
        let both = and_parts (eqb node.place place) (may_go notes.calls node.ways (edge_between node.place next)) one.2 in
        let at : node.place ≡ place = (Decides-eqb node.place place).0 both.0 in
        let edge : IsEdge loads notes node.place next =
        subst (λ (n : ℕ). IsEdge loads notes n next) (sym at) (target_edge place next passes.0) in
        let to = leads_there node next one.1 edge both.1 in
        (node, to.next, at, to.place, reached_only loads notes start nodes are node one.1, to.link),
    λ (one, other, at, onto, reached, link).
        let edge : IsEdge loads notes place next =
        subst (λ (n : ℕ). IsEdge loads notes n next) at
        (subst (λ (n : ℕ). IsEdge loads notes one.place n) onto link.edge) in
        let may : may_go notes.calls one.ways (edge_between one.place next) ≡ true =
        ap (λ (n : ℕ). may_go notes.calls one.ways (edge_between one.place n)) (sym onto)
        ∙ (may_go_law notes.calls one.ways (edge_between one.place other.place)).1 link.may in
        kept (is_taken notes nodes place) (targets place) next (edge_target place next edge)
        (some_passes (may_go_on notes place next) nodes one (has_reached loads notes start nodes are one reached)
        (goes notes place next one at may)),
  )

  -- without calls they are its edges
  pub nexts_edges : (place next : ℕ) → notes.calls ≡ [] → Contains (each_place nodes) place
      → Contains (nexts loads notes nodes place) next ↔ IsEdge loads notes place next
  nexts_edges place next without there = (
    λ has. target_edge place next (only_kept (is_taken notes nodes place) (targets place) next has).0,
    λ edge. kept (is_taken notes nodes place) (targets place) next (edge_target place next edge)
        (elim (with_new_only [] (map (λ (one : flow.Node). one.place) nodes) place there) [
          | inl none ↦ absurd (contains_none place none)
          | inr has ↦ (let found = node_of_place nodes place has in
              some_passes (may_go_on notes place next) nodes found.0 found.1
              (goes notes place next found.0 found.2
              (ap (λ (calls : List Call). may_go calls found.0.ways (edge_between found.0.place next)) without)))
        ]),
  )

-- the executed locations are those of the nodes
pub places_same : (loads : ℕ → Option Word) (notes : Notes) (start : ℕ) (nodes : List flow.Node) (executed : List ℕ)
    → AreAllNodes loads notes start nodes → AreFound loads notes start executed → each_place nodes ≡ executed
places_same loads notes start nodes executed are found =
    ap each_place (one_reached loads notes start nodes found.order.nodes are found.order.reached) ∙ found.order.places

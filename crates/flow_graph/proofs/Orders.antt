-- The order of discovery: its members are the nodes that are reached, and their locations the executed
-- ones.
use Rattle.std.proofs.Common.{◌≡◌, ℕ, zero, suc, ◌+◌, ◌<◌, ◌≤◌, true, eqb, List, [], ◌∷◌, ◌++◌, length}
use Rattle.std.proofs.Common.{map, take, get_or, Option, Some, None, refl, ap, sym, ◌∙◌, subst, inl, inr, ◌⊎◌, arith}
use Rattle.std.specs.Prelude.{slice_get, Contains}
use Rattle.std.specs.List.{list_any}
use Rattle.std.proofs.lemmas.Bool.{cases_lt}
use Rattle.std.proofs.lemmas.Bool.Decides.{Decides-eqb}
use Rattle.std.proofs.lemmas.Option.{slice_get_within, slice_get_past, slice_get-get_or}
use Rattle.base_words.specs.declared.word.Word.{Word}
use Rattle.base_notes.specs.Allowed.{Notes}
use Rattle.base_graphs.proofs.Lists.{contains_here, contains_there, contains_cases, contains_none, contains_at}
use Rattle.base_graphs.proofs.Lists.{contains_from_get}
use Rattle.flow_graph.specs.declared.refusal.Refusal.{Refusal}
use Rattle.flow_graph.specs.declared.refusal.Refusal.TheVariants.{Memory, NotLoaded, NotInProfile, Alters, Unbounded}
use Rattle.flow_graph.specs.declared.refusal.Refusal.TheVariants.{HasCalls, TooMany, TooLarge}
use Rattle.flow_graph.specs.Accepted.{IsGood, IsMet, IsNotLoaded, IsNotInProfile, IsTooMany}
use Rattle.flow_graph.specs.Refused.{IsFirstWrong, IsWrong, IsFlowRefusal}
use Rattle.flow_graph.specs.Executed.{with_new, added_by, each_place, found_after, next_nodes}
use Rattle.flow_graph.specs.Executed.{same_node, with_new_by, AreAllNodes, IsOrder}
use Rattle.flow_graph.specs.Flow.{AreFound}
use Rattle.flow_graph.specs.Hops.{first_node, IsExecuted, IsLink, IsNode, Lead, Node}
use Rattle.flow_graph.proofs.Adding.{any_there, there_any, grown_keeps, grown_has, grown_only, grown_different, grown_before}
use Rattle.flow_graph.proofs.Adding.{grown_from}
use Rattle.flow_graph.proofs.Links.{link_there, node_law, node_linked}
pub use Rattle.flow_graph.proofs.Targets.{hop_there, target_there}
use Rattle.base_graphs.specs.Graph.{AreDifferent}

-- a member, as a test of the list finds it
pub any_contains : (xs : List ℕ) (y : ℕ) → list_any (λ x. eqb x y) xs ≡ true → Contains xs y
any_contains = any_there eqb Decides-eqb

pub contains_any : (xs : List ℕ) (y : ℕ) → Contains xs y → list_any (λ x. eqb x y) xs ≡ true
contains_any = there_any eqb Decides-eqb

-- what was there stays where it was
pub with_new_keeps : (places xs : List ℕ) (k x : ℕ) → slice_get places k ≡ Some x
    → slice_get (with_new places xs) k ≡ Some x
with_new_keeps = grown_keeps eqb Decides-eqb

-- all that is to be added is there
pub with_new_has : (places xs : List ℕ) (x : ℕ) → Contains xs x → Contains (with_new places xs) x
with_new_has = grown_has eqb Decides-eqb

-- and nothing else
pub with_new_only : (places xs : List ℕ) (x : ℕ) → Contains (with_new places xs) x → Contains places x ⊎ Contains xs x
with_new_only = grown_only eqb Decides-eqb

-- where none is there twice, none is then
pub with_new_different : (places xs : List ℕ) → AreDifferent places → AreDifferent (with_new places xs)
with_new_different = grown_different eqb Decides-eqb

-- what stands where something was is what was there
pub with_new_before : (places xs : List ℕ) (k x : ℕ) → k < length places → slice_get (with_new places xs) k ≡ Some x
    → slice_get places k ≡ Some x
with_new_before = grown_before eqb Decides-eqb

-- the location of a member is one of the locations
pub place_of_node : (nodes : List Node) (node : Node) → Contains nodes node
    → Contains (map (λ (one : Node). one.place) nodes) node.place
place_of_node [] node there = absurd (contains_none node there)
place_of_node (one ∷ nodes) node there = elim (contains_cases one node nodes there) [
  | inl same ↦ subst (λ (n : Node). Contains (one.place ∷ map (λ (x : Node). x.place) nodes) n.place) same
      (contains_here one.place _)
  | inr behind ↦ contains_there one.place node.place _ (place_of_node nodes node behind)
]

pub node_of_place : (nodes : List Node) (place : ℕ) → Contains (map (λ (one : Node). one.place) nodes) place
    → (node : Node) × Contains nodes node × (node.place ≡ place)
node_of_place [] place there = absurd (contains_none place there)
node_of_place (one ∷ nodes) place there = elim (contains_cases one.place place _ there) [
  | inl same ↦ (one, contains_here one nodes, same)
  | inr behind ↦ (let found = node_of_place nodes place behind in
      (found.0, contains_there one found.0 nodes found.1, found.2))
]

-- the location of a node at an index
pub place_at : (nodes : List Node) (k : ℕ) (node : Node) → slice_get nodes k ≡ Some node
    → slice_get (map (λ (one : Node). one.place) nodes) k ≡ Some node.place
place_at [] k node e = cc
place_at (one ∷ nodes) zero node e = ap Some (ap (λ (n : Node). n.place) same)
  where
    same : one ≡ node
    same = cc
place_at (one ∷ nodes) (suc k) node e = place_at nodes k node e

pub node_at : (nodes : List Node) (k place : ℕ) → slice_get (map (λ (one : Node). one.place) nodes) k ≡ Some place
    → (node : Node) × (slice_get nodes k ≡ Some node) × (node.place ≡ place)
node_at [] k place e = cc
node_at (one ∷ nodes) zero place e = (one, refl, same)
  where
    same : one.place ≡ place
    same = cc
node_at (one ∷ nodes) (suc k) place e = node_at nodes k place e

-- where a location stands first among nodes, each location of which stands once in these, with those before it
pub first_of : (nodes : List Node) (places : List ℕ) → each_place nodes ≡ places → (turn place : ℕ)
    → slice_get places turn ≡ Some place
    → (k : ℕ) × (node : Node) × (slice_get nodes k ≡ Some node) × (node.place ≡ place)
    × ((j : ℕ) (other : Node) → j < k → slice_get nodes j ≡ Some other
    → (i : ℕ) × (i < turn) × (slice_get places i ≡ Some other.place))
first_of nodes places same turn place at =
    let from = grown_from eqb Decides-eqb [] (map (λ (one : Node). one.place) nodes) turn place (omega arith)
    (ap (λ (xs : List ℕ). slice_get xs turn) same ∙ at) in
    let node = node_at nodes from.0 place from.1 in (
      from.0,
      node.0,
      node.1,
      node.2,
      λ j other less there.
          let before = from.2 j other.place less (place_at nodes j other there) in (
            before.0,
            before.1,
            sym (ap (λ (xs : List ℕ). slice_get xs before.0) same) ∙ before.2,
          ),
    )

-- the members of the first part of a list, and where they stand
pub taken_there : {X : Type 0} (n : ℕ) (xs : List X) (k : ℕ) (x : X) → slice_get (take n xs) k ≡ Some x
    → slice_get xs k ≡ Some x
taken_there zero xs k x at = cc
taken_there (suc n) [] k x at = cc
taken_there (suc n) (y ∷ xs) zero x at = at
taken_there (suc n) (y ∷ xs) (suc k) x at = taken_there n xs k x at

pub taken_low : {X : Type 0} (n : ℕ) (xs : List X) (k : ℕ) (x : X) → slice_get (take n xs) k ≡ Some x → k < n
taken_low zero xs k x at = cc
taken_low (suc n) [] k x at = cc
taken_low (suc n) (y ∷ xs) zero x at = omega arith
taken_low (suc n) (y ∷ xs) (suc k) x at = omega (arith, taken_low n xs k x at)

pub there_taken : {X : Type 0} (n : ℕ) (xs : List X) (k : ℕ) (x : X) → k < n → slice_get xs k ≡ Some x
    → slice_get (take n xs) k ≡ Some x
there_taken zero xs k x low at = absurd (omega (arith, low))
there_taken (suc n) [] k x low at = cc
there_taken (suc n) (y ∷ xs) zero x low at = at
there_taken (suc n) (y ∷ xs) (suc k) x low at = there_taken n xs k x (omega (arith, low)) at

module _ (loads : ℕ → Option Word) (notes : Notes) (start : ℕ) where
  abbrev after : ℕ → List Node
  after = found_after loads notes start

  abbrev added : ℕ → List Node
  added turns = added_by loads notes (slice_get (after turns) turns)

  -- what was found stays where it was
  pub found_later : (before turns k : ℕ) (x : Node) → before ≤ turns → slice_get (after before) k ≡ Some x
      → slice_get (after turns) k ≡ Some x
  found_later before zero k x le e =
      let same : before ≡ 0 = omega (arith, le) in
      sym (ap (λ (t : ℕ). slice_get (after t) k) same) ∙ e
  found_later before (suc turns) k x le e = elim (cases_lt turns before) [
    | inl last ↦ (let same : before ≡ suc turns = omega (arith, le, last) in
        sym (ap (λ (t : ℕ). slice_get (after t) k) same) ∙ e)
    | inr earlier ↦ grown_keeps same_node node_law (after turns) (added turns) k x
        (found_later before turns k x earlier e)
  ]

  -- nothing is found twice
  pub found_different : (turns : ℕ) → AreDifferent (after turns)
  found_different zero = (contains_none (first_node notes start), tt)
  found_different (suc turns) = grown_different same_node node_law (after turns) (added turns) (found_different turns)

  -- a member was there at its turn
  pub member_at : (turns k : ℕ) (x : Node) → k < turns → slice_get (after turns) k ≡ Some x
      → slice_get (after k) k ≡ Some x
  member_at zero k x lt e = absurd (omega (arith, lt))
  member_at (suc turns) k x lt e =
      let there : slice_get (after turns) k ≡ Some x = before in
      elim (cases_lt k turns) [
        | inl earlier ↦ member_at turns k x earlier there
        | inr last ↦ (let same : turns ≡ k = omega (arith, lt, last) in
            sym (ap (λ (t : ℕ). slice_get (after t) k) same) ∙ there)
      ]
    where
      before : slice_get (after turns) k ≡ Some x
      before = elim (cases_lt k (length (after turns))) [
        | inl inside ↦ grown_before same_node node_law (after turns) (added turns) k x inside e
        | inr past ↦ (let none : slice_get (after turns) turns ≡ None =
            slice_get_past (after turns) turns (omega (arith, past, lt)) in
            sym (ap (λ (o : Option Node). slice_get (with_new_by same_node (after turns) (added_by loads notes o)) k) none)
            ∙ e)
      ]

  pub lead_push : (node mid next : Node) (through : List Node) → Lead loads notes node through mid
      → IsLink loads notes mid next → Lead loads notes node (through ++ next ∷ []) next
  lead_push node mid next [] lead link = (subst (λ (n : Node). IsLink loads notes n next) (sym lead) link, refl)
  lead_push node mid next (one ∷ through) lead link = (lead.0, lead_push one mid next through lead.1 link)

  -- where an edge leads from a node that is reached is reached
  pub reached_next : (node next : Node) → IsNode loads notes start node → IsLink loads notes node next
      → IsNode loads notes start next
  reached_next node next (through, lead) link =
      (through ++ next ∷ [], lead_push (first_node notes start) node next through lead link)

  pub first_reached : IsNode loads notes start (first_node notes start)
  first_reached = ([], refl)

  -- all that is found is reached
  pub only_reached : (turns : ℕ) (node : Node) → Contains (after turns) node → IsNode loads notes start node
  only_reached zero node there = elim (contains_cases (first_node notes start) node [] there)
      [ inl same ↦ ([], same) | inr none ↦ absurd (contains_none node none) ]
  only_reached (suc turns) node there = elim (grown_only same_node node_law (after turns) (added turns) node there) [
    | inl before ↦ only_reached turns node before
    | inr new ↦ by_member (slice_get (after turns) turns) refl new (only_reached turns)
  ]
    where
      by_member : (member : Option Node) → slice_get (after turns) turns ≡ member
          → Contains (added_by loads notes member) node
          → ((one : Node) → Contains (after turns) one → IsNode loads notes start one)
          → IsNode loads notes start node
      by_member None e new reached = absurd (contains_none node new)
      by_member (Some one) e new reached =
          reached_next one node (reached one (contains_from_get (after turns) turns one e))
          (node_linked loads notes one node new)

  module _ (nodes : List Node) (are : AreAllNodes loads notes start nodes) where
    abbrev turns : ℕ
    turns = are.count

    in_time : (k : ℕ) (node : Node) → slice_get nodes k ≡ Some node → k < turns
    in_time k node at = omega (arith, slice_get_within nodes k node at, are.all)

    -- what stands there was there at its turn
    pub was : (k : ℕ) (node : Node) → slice_get nodes k ≡ Some node → slice_get (after k) k ≡ Some node
    was k node at = member_at turns k node (in_time k node at) (ap (λ (xs : List Node). slice_get xs k) are.after ∙ at)

    pub stays_there : (before k : ℕ) (node : Node) → before ≤ turns → slice_get (after before) k ≡ Some node
        → slice_get nodes k ≡ Some node
    stays_there before k node le at =
        sym (ap (λ (xs : List Node). slice_get xs k) are.after) ∙ found_later before turns k node le at

    -- where edges lead from a member are members
    closed : (node next : Node) → Contains nodes node → IsLink loads notes node next → Contains nodes next
    closed node next there link =
        let at : (k : ℕ) × (slice_get nodes k ≡ Some node) = contains_at nodes node there in
        let here : slice_get (after at.0) at.0 ≡ Some node = was at.0 node at.1 in
        let new : Contains (after (suc at.0)) next =
        grown_has same_node node_law (after at.0) (added at.0) next
        (subst (λ (o : Option Node). Contains (added_by loads notes o) next) (sym here)
        (link_there loads notes node next link)) in
        let place : (k : ℕ) × (slice_get (after (suc at.0)) k ≡ Some next) = contains_at (after (suc at.0)) next new in
        contains_from_get nodes place.0 next
        (stays_there (suc at.0) place.0 next (omega (arith, in_time at.0 node at.1)) place.1)

    along : (node last : Node) (through : List Node) → Contains nodes node → Lead loads notes node through last
        → Contains nodes last
    along node last [] there lead = subst (λ (n : Node). Contains nodes n) lead there
    along node last (next ∷ through) there lead = along next last through (closed node next there lead.0) lead.1

    begun : Contains nodes (first_node notes start)
    begun = contains_from_get nodes 0 (first_node notes start) (stays_there 0 0 (first_node notes start) (omega arith) refl)

    -- each node that is reached is a member, and each member is reached
    pub has_reached : (node : Node) → IsNode loads notes start node → Contains nodes node
    has_reached node (through, lead) = along (first_node notes start) node through begun lead

    pub reached_only : (node : Node) → Contains nodes node → IsNode loads notes start node
    reached_only node there = only_reached turns node (subst (λ (xs : List Node). Contains xs node) (sym are.after) there)

    pub reached_different : AreDifferent nodes
    reached_different = subst AreDifferent are.after (found_different turns)

    pub has_executed : (place : ℕ) → IsExecuted loads notes start place → Contains (each_place nodes) place
    has_executed place (ways, reached) =
        with_new_has [] (map (λ (one : Node). one.place) nodes) place
        (place_of_node nodes (record { place = place; ways = ways })
        (has_reached (record { place = place; ways = ways }) reached))

    pub has_only : (place : ℕ) → Contains (each_place nodes) place → IsExecuted loads notes start place
    has_only place there = elim (with_new_only [] (map (λ (one : Node). one.place) nodes) place there) [
      | inl none ↦ absurd (contains_none place none)
      | inr one ↦ (let found = node_of_place nodes place one in
          subst (IsExecuted loads notes start) found.2 (found.0.ways, reached_only found.0 found.1))
    ]

    -- their locations are the executed locations
    pub all_found : (places : List ℕ) → each_place nodes ≡ places → AreFound loads notes start places
    all_found places same = record {
      order = record { nodes = nodes; reached = are; places = same };
      all = λ place executed. subst (λ (xs : List ℕ). Contains xs place) same (has_executed place executed);
      only = λ place there. has_only place (subst (λ (xs : List ℕ). Contains xs place) (sym same) there);
    }

  -- what is there after as many turns or fewer stays where it was, and nothing else comes there
  pub same_there : (one other k : ℕ) (x : Node) → k < length (after one) → slice_get (after other) k ≡ Some x
      → slice_get (after one) k ≡ Some x
  same_there one other k x inside at = elim (cases_lt one other) [
    | inr later ↦ found_later other one k x later at
    | inl earlier ↦ (let here : slice_get (after one) k ≡ Some (get_or (after one) k x) =
        slice_get-get_or (after one) k x inside in
        here ∙ sym (found_later one other k (get_or (after one) k x) (omega (arith, earlier)) here) ∙ at)
  ]

  -- of an order of discovery
  module _ (order : List ℕ) (is : IsOrder loads notes start order) where
    pub order_found : AreFound loads notes start order
    order_found = all_found is.nodes is.reached order is.places

    pub order_different : AreDifferent order
    order_different =
        subst AreDifferent is.places (with_new_different [] (map (λ (one : Node). one.place) is.nodes) tt)

    -- where a location stands first, with those before it
    pub first_node_at : (turn place : ℕ) → slice_get order turn ≡ Some place
        → (k : ℕ) × (node : Node) × (slice_get is.nodes k ≡ Some node) × (node.place ≡ place)
        × ((j : ℕ) (other : Node) → j < k → slice_get is.nodes j ≡ Some other
        → (i : ℕ) × (i < turn) × (slice_get order i ≡ Some other.place))
    first_node_at = first_of is.nodes order is.places

-- What is wrong with a location of the first nodes that were met, where the locations before it are good, refuses
-- the flow.
pub wrong_met : (loads : ℕ → Option Word) (notes : Notes) (start count : ℕ) (places : List ℕ) (refusal : Refusal)
    → each_place (take 65536 (found_after loads notes start count)) ≡ places
    → IsFirstWrong loads notes places refusal → IsFlowRefusal loads notes start refusal
wrong_met loads notes start count places refusal same (turn, place, here, good, wrong) = go refusal wrong
  where
    found : List Node
    found = found_after loads notes start count

    first : (k : ℕ) × (node : Node) × (slice_get (take 65536 found) k ≡ Some node) × (node.place ≡ place)
        × ((j : ℕ) (other : Node) → j < k → slice_get (take 65536 found) j ≡ Some other
        → (i : ℕ) × (i < turn) × (slice_get places i ≡ Some other.place))
    first = first_of (take 65536 found) places same turn place here

    there : slice_get found first.0 ≡ Some first.1
    there = taken_there 65536 found first.0 first.1 first.2

    inside : first.0 < length found
    inside = slice_get_within found first.0 first.1 there

    low : first.0 < 65536
    low = taken_low 65536 found first.0 first.1 first.2

    met : IsMet loads notes start place
    met = record {
      count = first.0;
      ways = first.1.ways;
      member = (elim (cases_lt first.0 count) [
        | inl early ↦ member_at loads notes start count first.0 first.1 early there
        | inr late ↦ found_later loads notes start count first.0 first.0 first.1 late there
      ])
          ∙ ap (λ (p : ℕ). let made : Node = record { place = p; ways = first.1.ways } in Some made) first.3;
      before = λ k other lt at.
          let then = same_there loads notes start count first.0 k other (omega (arith, lt, inside)) at in
          let i = first.4 k other lt (there_taken 65536 found k other (omega (arith, lt, low)) then) in
          good i.0 other.place i.1 i.2;
    }

    go : (one : Refusal) → IsWrong loads notes place one → IsFlowRefusal loads notes start one
    go (NotLoaded location) w = subst (IsNotLoaded loads notes start) (sym w.0) (met, w.1)
    go (NotInProfile location op) w = subst (λ (p : ℕ). IsNotInProfile loads notes start p op) (sym w.0) (met, w.1, w.2)
    go HasCalls w = w
    go TooMany w = absurd w
    go Memory w = tt
    go (Alters writer word) w = w
    go (Unbounded cycle) w = w
    go (TooLarge product) w = w

-- where the locations of the first nodes that were met are good, and there are more, there are too many
pub many_met : (loads : ℕ → Option Word) (notes : Notes) (start count : ℕ) (places : List ℕ)
    → each_place (take 65536 (found_after loads notes start count)) ≡ places
    → ((place : ℕ) → Contains places place → IsGood loads notes place)
    → 65536 < length (found_after loads notes start count) → IsTooMany loads notes start
many_met loads notes start count places same good many = record {
  count = count;
  many = many;
  good = λ k node low at.
      let found = found_after loads notes start count in
      good node.place
      (subst (λ (xs : List ℕ). Contains xs node.place) same
      (with_new_has [] (map (λ (one : Node). one.place) (take 65536 found)) node.place
      (place_of_node (take 65536 found) node
      (contains_from_get (take 65536 found) k node (there_taken 65536 found k node low at)))));
}

-- the next turn
pub found_next : (loads : ℕ → Option Word) (notes : Notes) (start turn : ℕ) (node : Node) (nodes more : List Node)
    → found_after loads notes start turn ≡ nodes
    → slice_get nodes turn ≡ Some node → more ≡ with_new_by same_node nodes (next_nodes loads notes node)
    → found_after loads notes start (turn + 1) ≡ more
found_next loads notes start turn node nodes more after here added =
    let next : turn + 1 ≡ suc turn = omega arith in
    let grown : found_after loads notes start (suc turn)
    ≡ with_new_by same_node nodes (added_by loads notes (slice_get nodes turn)) =
    ap (λ (xs : List Node). with_new_by same_node xs (added_by loads notes (slice_get xs turn))) after in
    ap (found_after loads notes start) next ∙ grown
    ∙ ap (λ (o : Option Node). with_new_by same_node nodes (added_by loads notes o)) here ∙ sym added

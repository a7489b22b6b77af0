-- The nodes that are held are the definitions' nodes: what is open has an index of its own.
use Rattle.std.proofs.Common.{◌≡◌, ℕ, zero, suc, ◌<◌, Bool, true, false, eqb, List, ◌∷◌, ◌++◌, length, []}
use Rattle.std.proofs.Common.{get_or, map, Option, Some, refl, ap, sym, ◌∙◌, subst, inl, inr, arith}
use Rattle.std.specs.Prelude.{slice_get, slice_index_or, Contains, if◌then◌else◌, option_map, ◌||◌, ◌⊎◌}
use Rattle.std.specs.Bool.{one_answer}
use Rattle.std.specs.List.{list_any, AllByRecursion, IsDistinct}
use Rattle.std.specs.Prelude.{position}
use Rattle.std.proofs.lemmas.List.Quantifiers.{position-Some}
use Rattle.std.proofs.lemmas.Map.Keys.{IsDistinct-head, IsDistinct-tail}
use Rattle.std.proofs.lemmas.Bool.Decides.{Decides-eqb, Decides-and, Decides-like}
use Rattle.std.proofs.lemmas.List.{length-append, length-map, map-append}
use Rattle.std.proofs.lemmas.Option.{get_or_from_slice_get, slice_get_within, slice_get-get_or, slice_get-map}
use Rattle.base_words.specs.declared.location.Location.{Location}
use Rattle.base_notes.specs.Allowed.{Notes}
use Rattle.base_notes.specs.declared.notes.call.Call.{Call}
use Rattle.machine_steps.specs.declared.open.Open.{Open}
use Rattle.machine_steps.specs.Calls.{open_after, MayGo}
use Rattle.machine_steps.specs.OpenIn.{open_in}
use Rattle.base_graphs.specs.Graph.{AreDifferent}
use Rattle.base_graphs.proofs.Lists.{contains_cases, contains_from_get, contains_here, contains_none, contains_there}
use Rattle.base_graphs.proofs.Lists.{distinct_push, one_place}
use Rattle.flow_graph.specs.contracts.node.NodePartialEq as held_nodes
use Rattle.flow_graph.specs.declared.node.Node as held
use Rattle.flow_graph.specs.Executed.{may_go, onward, same_node, with_new_by}
use Rattle.flow_graph.specs.InNodes.{node_of, ways_in, ArePlacedIn}
use Rattle.flow_graph.specs.Hops.{edge_between, Node}
use Rattle.flow_graph.proofs.Links.{may_go_law, node_law}
use Rattle.flow_graph.proofs.Adding.{there_any}

-- what is open by an index
pub ways_at : (calls : List Call) (openings : List Open) (k : ℕ) (one : Open) → slice_get openings k ≡ Some one
    → slice_get (ways_in calls openings) k ≡ Some (open_in one calls)
ways_at calls openings k one e =
    slice_get-map (λ (o : Open). open_in o calls) openings k ∙ ap (option_map (λ (o : Open). open_in o calls)) e

pub ways_there : (calls : List Call) (openings : List Open) (k : ℕ) → k < length openings
    → slice_get (ways_in calls openings) k ≡ Some (slice_index_or (ways_in calls openings) k [])
ways_there calls [] k below = absurd (omega (arith, below))
ways_there calls (one ∷ openings) zero below = refl
ways_there calls (one ∷ openings) (suc k) below = ways_there calls openings k (omega (arith, below))

pub ways_of_one : (calls : List Call) (openings : List Open) (k : ℕ) (one : Open) → k < length openings
    → one ≡ get_or openings k one → slice_index_or (ways_in calls openings) k [] ≡ open_in one calls
ways_of_one calls openings k one below is =
    get_or_from_slice_get (ways_in calls openings) k (open_in one calls) []
    (ways_at calls openings k one (slice_get-get_or openings k one below ∙ ap Some (sym is)))

-- it stays when more is added
pub ways_stay : (calls : List Call) (openings more : List Open) (k : ℕ) → k < length openings
    → slice_index_or (ways_in calls (openings ++ more)) k [] ≡ slice_index_or (ways_in calls openings) k []
ways_stay calls [] more k below = absurd (omega (arith, below))
ways_stay calls (one ∷ openings) more zero below = refl
ways_stay calls (one ∷ openings) more (suc k) below = ways_stay calls openings more k (omega (arith, below))

pub node_stays : (calls : List Call) (openings more : List Open) (node : held.Node) → node.opening < length openings
    → node_of calls (openings ++ more) node ≡ node_of calls openings node
node_stays calls openings more node below =
    ap (λ (w : List (Option ℕ)). let made : Node = record { place = node.location.number; ways = w } in made)
    (ways_stay calls openings more node.opening below)

pub nodes_stay : (calls : List Call) (openings more : List Open) (nodes : List held.Node)
    → ((node : held.Node) → Contains nodes node → node.opening < length openings)
    → map (node_of calls (openings ++ more)) nodes ≡ map (node_of calls openings) nodes
nodes_stay calls openings more [] within = refl
nodes_stay calls openings more (node ∷ nodes) within =
    ap (λ (n : Node). n ∷ map (node_of calls (openings ++ more)) nodes)
    (node_stays calls openings more node (within node (contains_here node nodes)))
    ∙ ap (λ (ns : List Node). node_of calls openings node ∷ ns)
    (nodes_stay calls openings more nodes (λ one there. within one (contains_there node one nodes there)))

-- what isn't there is added at the end
pub placed_last : (calls : List Call) (openings : List Open) (one : Open)
    → ¬ Contains (ways_in calls openings) (open_in one calls)
    → ArePlacedIn calls openings (openings ++ one ∷ []) (open_in one calls) (length openings)
placed_last calls openings one new = record {
  here = ways_at calls (openings ++ one ∷ []) (length openings) one (last openings);
  more = one ∷ [];
  kept = refl;
  different = λ different. subst AreDifferent
      (sym (map-append (λ (o : Open). open_in o calls) openings (one ∷ [])))
      (distinct_push (ways_in calls openings) (open_in one calls) different new);
}
  where
    last : (openings : List Open) → slice_get (openings ++ one ∷ []) (length openings) ≡ Some one
    last [] = refl
    last (first ∷ openings) = last openings

-- the test of nodes that are held is that of nodes
module _ (calls : List Call) (openings : List Open) (different : AreDifferent (ways_in calls openings)) where
  same_held : (k x : held.Node) → k.opening < length openings → x.opening < length openings
      → held_nodes.TheImpl.ghosts.eq k x ≡ same_node (node_of calls openings x) (node_of calls openings k)
  same_held k x k_within x_within =
      one_answer (held_nodes.TheImpl.ghosts.eq k x) (same_node (node_of calls openings x) (node_of calls openings k))
      (Decides-like (held_nodes.TheImpl.ghosts.eq k x) together apart
      (Decides-and (eqb k.location.number x.location.number) (eqb k.opening x.opening)
      (Decides-eqb k.location.number x.location.number) (Decides-eqb k.opening x.opening)))
      (node_law (node_of calls openings x) (node_of calls openings k))
    where
      together : (k.location.number ≡ x.location.number) × (k.opening ≡ x.opening)
          → node_of calls openings x ≡ node_of calls openings k
      together both =
          ap (λ (p : ℕ). let made : Node = record { place = p; ways = slice_index_or (ways_in calls openings) x.opening [] } in made)
          (sym both.0)
          ∙ ap (λ (o : ℕ). let made : Node = record { place = k.location.number; ways = slice_index_or (ways_in calls openings) o [] } in made)
          (sym both.1)

      apart : node_of calls openings x ≡ node_of calls openings k
          → (k.location.number ≡ x.location.number) × (k.opening ≡ x.opening)
      apart same = (
        sym (ap (λ (n : Node). n.place) same),
        one_place (ways_in calls openings) k.opening x.opening (slice_index_or (ways_in calls openings) k.opening [])
            different (ways_there calls openings k.opening k_within)
            (ways_there calls openings x.opening x_within ∙ ap Some (ap (λ (n : Node). n.ways) same)),
      )

  any_held : (k : held.Node) (nodes : List held.Node) → k.opening < length openings
      → ((node : held.Node) → Contains nodes node → node.opening < length openings)
      → list_any (held_nodes.TheImpl.ghosts.eq k) nodes
      ≡ list_any (λ one. same_node one (node_of calls openings k)) (map (node_of calls openings) nodes)
  any_held k [] below within = refl
  any_held k (x ∷ nodes) below within =
      both (held_nodes.TheImpl.ghosts.eq k x) (same_node (node_of calls openings x) (node_of calls openings k))
      (list_any (held_nodes.TheImpl.ghosts.eq k) nodes) _ (same_held k x below (within x (contains_here x nodes)))
      (any_held k nodes below (λ one there. within one (contains_there x one nodes there)))
    where
      both : (a b c d : Bool) → a ≡ b → c ≡ d → (a || c) ≡ (b || d)
      both a b c d e f = ap (λ (t : Bool). t || c) e ∙ ap (λ (t : Bool). b || t) f

  abbrev pub view : held.Node → Node
  view = node_of calls openings

  none_same : (k : held.Node) (nodes : List held.Node) → k.opening < length openings
      → ((node : held.Node) → Contains nodes node → node.opening < length openings)
      → AllByRecursion (λ y. held_nodes.TheImpl.ghosts.eq k y ≡ false) nodes → ¬ Contains (map (node_of calls openings) nodes) (view k)
  none_same k [] below within apart there = contains_none (view k) there
  none_same k (x ∷ nodes) below within apart there = elim (contains_cases (view x) (view k) (map (node_of calls openings) nodes) there) [
    | inl equal ↦ (let clash : ◌≡◌ {A = Bool} true false =
        sym ((node_law (view x) (view k)).1 equal)
        ∙ sym (same_held k x below (within x (contains_here x nodes))) ∙ apart.0 in cc)
    | inr behind ↦ none_same k nodes below (λ one at. within one (contains_there x one nodes at)) apart.1 behind
  ]

  -- no two of them are the same node
  pub held_different : (nodes : List held.Node) → IsDistinct held_nodes.TheImpl.ghosts.eq nodes
      → ((node : held.Node) → Contains nodes node → node.opening < length openings)
      → AreDifferent (map (node_of calls openings) nodes)
  held_different [] d within = tt
  held_different (k ∷ nodes) d within = (
    none_same k nodes (within k (contains_here k nodes)) (λ one at. within one (contains_there k one nodes at))
        (IsDistinct-head held_nodes.TheImpl.ghosts.eq k nodes d),
    held_different nodes (IsDistinct-tail held_nodes.TheImpl.ghosts.eq k nodes d)
        (λ one at. within one (contains_there k one nodes at)),
  )

  -- a node is found by its index, or it isn't there
  pub held_found : (nodes : List held.Node) (k : held.Node) (index : ℕ) → k.opening < length openings
      → ((node : held.Node) → Contains nodes node → node.opening < length openings)
      → position (held_nodes.TheImpl.ghosts.eq k) nodes ≡ Some index
      → slice_get (map (node_of calls openings) nodes) index ≡ Some (view k)
  held_found nodes k index below within e =
      let found = position-Some (held_nodes.TheImpl.ghosts.eq k) nodes index k e in
      let x = get_or nodes index k in
      let at : slice_get nodes index ≡ Some x = slice_get-get_or nodes index k found.0 in
      slice_get-map (node_of calls openings) nodes index ∙ ap (option_map (node_of calls openings)) at
      ∙ ap Some ((node_law (view x) (view k)).0
      (sym (same_held k x below (within x (contains_from_get nodes index x at))) ∙ found.1))

  pub held_absent : (nodes : List held.Node) (k : held.Node) → k.opening < length openings
      → ((node : held.Node) → Contains nodes node → node.opening < length openings)
      → list_any (held_nodes.TheImpl.ghosts.eq k) nodes ≡ false
      → ¬ Contains (map (node_of calls openings) nodes) (view k)
  held_absent nodes k below within none there =
      let clash : ◌≡◌ {A = Bool} true false =
      sym (there_any same_node node_law (map (node_of calls openings) nodes) (view k) there)
      ∙ sym (any_held k nodes below within) ∙ none in cc

  -- what is open at a node is open somewhere
  pub ways_held : (nodes : List held.Node) (node : Node)
      → ((one : held.Node) → Contains nodes one → one.opening < length openings)
      → Contains (map (node_of calls openings) nodes) node → Contains (ways_in calls openings) node.ways
  ways_held [] node within there = absurd (contains_none node there)
  ways_held (k ∷ nodes) node within there = elim (contains_cases (view k) node (map (node_of calls openings) nodes) there) [
    | inl equal ↦ subst (λ (n : Node). Contains (ways_in calls openings) n.ways) equal
        (contains_from_get (ways_in calls openings) k.opening (view k).ways
        (ways_there calls openings k.opening (within k (contains_here k nodes))))
    | inr behind ↦ ways_held nodes node (λ one at. within one (contains_there k one nodes at)) behind
  ]

  -- the nodes after one is added
  pub held_added : (nodes : List held.Node) (k : held.Node) → k.opening < length openings
      → ((node : held.Node) → Contains nodes node → node.opening < length openings)
      → map (node_of calls openings) (if list_any (held_nodes.TheImpl.ghosts.eq k) nodes then nodes else nodes ++ k ∷ [])
      ≡ with_new_by same_node (map (node_of calls openings) nodes) (node_of calls openings k ∷ [])
  held_added nodes k below within =
      go (list_any (held_nodes.TheImpl.ghosts.eq k) nodes)
      (list_any (λ one. same_node one (node_of calls openings k)) (map (node_of calls openings) nodes))
      (any_held k nodes below within)
    where
      go : (a b : Bool) → a ≡ b
          → map (node_of calls openings) (if a then nodes else nodes ++ k ∷ [])
          ≡ (if b then map (node_of calls openings) nodes else map (node_of calls openings) nodes ++ node_of calls openings k ∷ [])
      go true true e = refl
      go true false e = cc
      go false true e = cc
      go false false e = map-append (node_of calls openings) nodes (k ∷ [])

-- a member of a list to which one was added, by any test
pub member_added : {X : Type 0} (b : Bool) (xs : List X) (k x : X) → Contains (if b then xs else xs ++ k ∷ []) x
    → Contains xs x ⊎ (k ≡ x)
member_added true xs k x there = inl there
member_added false xs k x there = pushed xs k x there
  where
    pushed : {X : Type 0} (xs : List X) (k x : X) → Contains (xs ++ k ∷ []) x → Contains xs x ⊎ (k ≡ x)
    pushed [] k x there = elim (contains_cases k x [] there) [ inl same ↦ inr same | inr none ↦ absurd (contains_none x none) ]
    pushed (y ∷ xs) k x there = elim (contains_cases y x (xs ++ k ∷ []) there) [
      | inl same ↦ inl (subst (λ z. Contains (y ∷ xs) z) same (contains_here y xs))
      | inr behind ↦ elim (pushed xs k x behind) [ inl in_xs ↦ inl (contains_there y x xs in_xs) | inr last ↦ inr last ]
    ]

-- where a step may not go along the edge, nothing is added
pub none_onward : (notes : Notes) (node : Node) (next : ℕ)
    → ¬ MayGo notes.calls node.ways (edge_between node.place next) → onward notes node next ≡ []
none_onward notes node next not_so = go (may_go notes.calls node.ways (edge_between node.place next)) refl
  where
    made : Node
    made = record { place = next; ways = open_after notes.calls (edge_between node.place next) node.ways }

    go : (may : Bool) → may_go notes.calls node.ways (edge_between node.place next) ≡ may
        → (if may then made ∷ [] else []) ≡ []
    go true is = absurd (not_so ((may_go_law notes.calls node.ways (edge_between node.place next)).0 is))
    go false is = refl

pub one_onward : (notes : Notes) (node : Node) (next : ℕ) → MayGo notes.calls node.ways (edge_between node.place next)
    → onward notes node next
    ≡ record { place = next; ways = open_after notes.calls (edge_between node.place next) node.ways } ∷ []
one_onward notes node next may =
    ap (λ (b : Bool). if b then made ∷ [] else [])
    ((may_go_law notes.calls node.ways (edge_between node.place next)).1 may)
  where
    made : Node
    made = record { place = next; ways = open_after notes.calls (edge_between node.place next) node.ways }

-- the nodes after the one is added that an edge leads to
pub onward_added : (notes : Notes) (openings after : List Open) (nodes keys : List held.Node) (from : held.Node)
    (onto : Location) (index : ℕ) → AreDifferent (ways_in notes.calls openings)
    → ((node : held.Node) → Contains nodes node → node.opening < length openings)
    → (let node : Node = node_of notes.calls openings from in
    MayGo notes.calls node.ways (edge_between node.place onto.number)
    → ArePlacedIn notes.calls openings after
    (open_after notes.calls (edge_between node.place onto.number) node.ways) index
    → (let made : held.Node = record { location = onto; opening = index } in
    keys ≡ (if list_any (held_nodes.TheImpl.ghosts.eq made) nodes then nodes else nodes ++ made ∷ [])
    → map (node_of notes.calls after) keys
    ≡ with_new_by same_node (map (node_of notes.calls openings) nodes) (onward notes node onto.number)))
onward_added notes openings after nodes keys from onto index different within may placed is =
    ap (map (node_of calls after)) is
    ∙ held_added calls after (placed.different different) nodes made below (λ node there. grows (within node there))
    ∙ ap (λ (ns : List Node). with_new_by same_node ns (node_of calls after made ∷ [])) stay
    ∙ ap (λ (w : List (Option ℕ)).
    let one : Node = record { place = onto.number; ways = w } in
    with_new_by same_node (map (node_of calls openings) nodes) (one ∷ []))
    (get_or_from_slice_get (ways_in calls after) index ways [] placed.here)
    ∙ ap (with_new_by same_node (map (node_of calls openings) nodes)) (sym (one_onward notes node onto.number may))
  where
    calls : List Call
    calls = notes.calls

    node : Node
    node = node_of calls openings from

    ways : List (Option ℕ)
    ways = open_after calls (edge_between node.place onto.number) node.ways

    made : held.Node
    made = record { location = onto; opening = index }

    below : index < length after
    below = omega (
      arith,
      slice_get_within (ways_in calls after) index ways placed.here,
      length-map after (λ (o : Open). open_in o calls),
    )

    grows : {k : ℕ} → k < length openings → k < length after
    grows less = omega (arith, less, ap length placed.kept, length-append openings placed.more)

    stay : map (node_of calls after) nodes ≡ map (node_of calls openings) nodes
    stay =
        ap (λ (os : List Open). map (node_of calls os) nodes) placed.kept
        ∙ nodes_stay calls openings placed.more nodes within

-- and each has what is open there
pub within_added : (calls : List Call) (openings after : List Open) (nodes keys : List held.Node) (made : held.Node)
    (ways : List (Option ℕ)) → ((node : held.Node) → Contains nodes node → node.opening < length openings)
    → ArePlacedIn calls openings after ways made.opening
    → keys ≡ (if list_any (held_nodes.TheImpl.ghosts.eq made) nodes then nodes else nodes ++ made ∷ [])
    → (node : held.Node) → Contains keys node → node.opening < length after
within_added calls openings after nodes keys made ways within placed is node there =
    elim (member_added (list_any (held_nodes.TheImpl.ghosts.eq made) nodes) nodes made node
    (subst (λ (ks : List held.Node). Contains ks node) is there)) [
      | inl before ↦ omega (arith, within node before, ap length placed.kept, length-append openings placed.more)
      | inr same ↦ omega (
        arith,
        slice_get_within (ways_in calls after) made.opening ways placed.here,
        length-map after (λ (o : Open). open_in o calls),
        ap (λ (n : held.Node). n.opening) same,
      )
    ]

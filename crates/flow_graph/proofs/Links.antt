-- The nodes that edges lead to from a node, as they are listed.
use Rattle.std.proofs.Common.{◌≡◌, ℕ, Bool, true, false, List, [], ◌∷◌, Option, Some, None, refl, ap, sym, ◌∙◌}
use Rattle.std.proofs.Common.{subst, inl, inr, eqb}
use Rattle.std.specs.Prelude.{Contains, Decides, flat_map, if◌then◌else◌, nat_eq}
use Rattle.std.specs.Cmp.Lexicographic.{pointwise, pointwise_decides}
use Rattle.std.specs.Option.{option_eq}
use Rattle.std.proofs.lemmas.Bool.Decides.{Decides-eqb, Decides-and, Decides-like}
use Rattle.std.proofs.lemmas.Option.{same_Some}
use Rattle.std.proofs.lemmas.List.Elements.{Contains-append_left, Contains-append_right, Contains-append_cases}
use Rattle.base_words.specs.declared.word.Word.{Word}
use Rattle.base_notes.specs.declared.notes.call.Call.{Call}
use Rattle.base_notes.specs.Allowed.{Notes}
use Rattle.machine_steps.specs.Calls.{open_after, MayGo}
use Rattle.machine_steps.specs.Since.{Edge}
use Rattle.base_graphs.proofs.Lists.{contains_here, contains_there, contains_cases, contains_none}
use Rattle.flow_graph.specs.Executed.{may_go, next_nodes, onward, same_node, successors, with_new}
use Rattle.flow_graph.specs.Hops.{edge_between, hops, IsLink, Node}
use Rattle.flow_graph.proofs.Adding.{grown_has, grown_only}
use Rattle.flow_graph.proofs.Targets.{hop_there, target_there}

-- the test of ways back, and of nodes
pub way_law : (a b : Option ℕ) → Decides (option_eq nat_eq a b) (a ≡ b)
way_law None None = (λ e. refl, λ e. refl)
way_law None (Some b) = (λ e. cc, λ e. cc)
way_law (Some a) None = (λ e. cc, λ e. cc)
way_law (Some a) (Some b) =
    (λ e. ap Some ((Decides-eqb a b).0 e), λ e. (Decides-eqb a b).1 (same_Some a b e))

pub ways_law : (a b : List (Option ℕ)) → Decides (pointwise (option_eq nat_eq) a b) (a ≡ b)
ways_law = pointwise_decides way_law

node_same : (a b : Node) → a.place ≡ b.place → a.ways ≡ b.ways → a ≡ b
node_same a b place ways =
    ap (λ (p : ℕ). let made : Node = record { place = p; ways = a.ways } in made) place
    ∙ ap (λ (w : List (Option ℕ)). let made : Node = record { place = b.place; ways = w } in made) ways

pub node_law : (a b : Node) → Decides (same_node a b) (a ≡ b)
node_law a b =
    Decides-like (same_node a b) (λ both. node_same a b both.0 both.1)
    (λ same. (ap (λ (n : Node). n.place) same, ap (λ (n : Node). n.ways) same))
    (Decides-and (eqb a.place b.place) (pointwise (option_eq nat_eq) a.ways b.ways)
    (Decides-eqb a.place b.place) (ways_law a.ways b.ways))

-- whether a step may go along an edge
pub may_go_law : (calls : List Call) (ways : List (Option ℕ)) (edge : Edge)
    → Decides (may_go calls ways edge) (MayGo calls ways edge)
may_go_law [] ways edge = (λ e. tt, λ may. refl)
may_go_law (call ∷ calls) [] edge = (λ e. tt, λ may. refl)
may_go_law (call ∷ calls) (way ∷ ways) edge =
    Decides-and
    (if eqb call.exit.number edge.from then option_eq nat_eq way (Some edge.onto) else true)
    (may_go calls ways edge) (go (eqb call.exit.number edge.from) refl) (may_go_law calls ways edge)
  where
    go : (here : Bool) → eqb call.exit.number edge.from ≡ here
        → Decides (if here then option_eq nat_eq way (Some edge.onto) else true)
        (call.exit.number ≡ edge.from → way ≡ Some edge.onto)
    go true is = (
      λ e equal. (way_law way (Some edge.onto)).0 e,
      λ may. (way_law way (Some edge.onto)).1 (may ((Decides-eqb call.exit.number edge.from).0 is)),
    )
    go false is = (
      λ e equal.
          let clash : ◌≡◌ {A = Bool} true false = sym ((Decides-eqb call.exit.number edge.from).1 equal) ∙ is in cc,
      λ may. refl,
    )

-- a member of a list is one of what all members stand for
pub in_all : {X Y : Type 0} (f : X → List Y) (xs : List X) (x : X) (y : Y) → Contains xs x → Contains (f x) y
    → Contains (flat_map f xs) y
in_all f [] x y there has = absurd (contains_none x there)
in_all f (one ∷ xs) x y there has = elim (contains_cases one x xs there) [
  | inl same ↦ Contains-append_left (f one) (flat_map f xs) y (subst (λ z. Contains (f z) y) (sym same) has)
  | inr behind ↦ Contains-append_right (f one) (flat_map f xs) y (in_all f xs x y behind has)
]

pub of_all : {X Y : Type 0} (f : X → List Y) (xs : List X) (y : Y) → Contains (flat_map f xs) y
    → (x : X) × Contains xs x × Contains (f x) y
of_all f [] y there = absurd (contains_none y there)
of_all f (one ∷ xs) y there = elim (Contains-append_cases (f one) (flat_map f xs) y there) [
  | inl first ↦ (one, contains_here one xs, first)
  | inr behind ↦ (let found = of_all f xs y behind in
      (found.0, contains_there one found.0 xs found.1, found.2))
]

module _ (loads : ℕ → Option Word) (notes : Notes) (node next : Node) where
  abbrev targets : List ℕ
  targets = with_new [] (successors loads notes node.place)

  abbrev edge : Edge
  edge = edge_between node.place next.place

  -- where an edge leads is listed
  pub link_there : IsLink loads notes node next → Contains (next_nodes loads notes node) next
  link_there link =
      in_all (onward notes node) targets next.place next
      (grown_has eqb Decides-eqb [] (successors loads notes node.place) next.place
      (target_there (hops loads notes node.place) link.edge.0 next.place link.edge.1))
      (go (may_go notes.calls node.ways edge) ((may_go_law notes.calls node.ways edge).1 link.may))
    where
      go : (may : Bool) → may ≡ true
          → Contains (if may then record { place = next.place; ways = open_after notes.calls edge node.ways } ∷ [] else []) next
      go true e =
          subst (λ (w : List (Option ℕ)). let made : Node = record { place = next.place; ways = w } in
          Contains (made ∷ []) next) link.behind (contains_here next [])
      go false e = cc

  -- and nothing else
  pub node_linked : Contains (next_nodes loads notes node) next → IsLink loads notes node next
  node_linked there =
      let found = of_all (onward notes node) targets next there in
      go found.0 found.1 (may_go notes.calls node.ways (edge_between node.place found.0)) refl found.2
    where
      go : (place : ℕ) → Contains targets place → (may : Bool) → may_go notes.calls node.ways (edge_between node.place place) ≡ may
          → Contains (if may then record { place = place; ways = open_after notes.calls (edge_between node.place place) node.ways } ∷ [] else []) next
          → IsLink loads notes node next
      go place target true e here = elim (contains_cases _ next [] here) [
        | inl same ↦ linked place target e same
        | inr none ↦ absurd (contains_none next none)
      ]
        where
          linked : (place : ℕ) → Contains targets place
              → may_go notes.calls node.ways (edge_between node.place place) ≡ true
              → record { place = place; ways = open_after notes.calls (edge_between node.place place) node.ways } ≡ next
              → IsLink loads notes node next
          linked place target e same =
              subst (IsLink loads notes node) same (record {
                edge = elim (grown_only eqb Decides-eqb [] (successors loads notes node.place) place target) [
                  | inl none ↦ absurd (contains_none place none)
                  | inr one ↦ hop_there (hops loads notes node.place) place one
                ];
                may = (may_go_law notes.calls node.ways (edge_between node.place place)).0 e;
                behind = refl;
              })
      go place target false e here = absurd (contains_none next here)

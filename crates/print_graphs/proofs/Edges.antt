-- Edges that are held as a set: of edges none of which stands twice each is new.
use Rattle.std.proofs.Common.{◌≡◌, ℕ, zero, suc, ◌+◌, ◌<◌, Bool, true, false, eqb, List, [], ◌∷◌, ◌++◌, map, take, length}
use Rattle.std.proofs.Common.{get_or, Some, refl, ap, sym, ◌∙◌, subst, inl, inr}
use Rattle.std.specs.Prelude.{◌&&◌, ◌||◌, Contains, if◌then◌else◌, slice_get, option_map}
use Rattle.std.specs.List.{list_any}
use Rattle.std.proofs.lemmas.Bool.{eq-eqb}
use Rattle.std.proofs.lemmas.Bool.Decides.{eqb_tells}
use Rattle.std.proofs.lemmas.List.{take_more}
use Rattle.std.proofs.lemmas.Option.{get_or_from_slice_get, slice_get-get_or, slice_get-map, slice_get_within}
use Rattle.base_notes.specs.declared.notes.edge.Edge.{Edge}
use Rattle.base_notes.specs.EdgeOf.{edge_of}
use Rattle.base_notes.specs.Edges.{leads}
use Rattle.base_graphs.proofs.Lists.{contains_from_get}
use Rattle.flow_loops.specs.Loops.{AreApart}
use Rattle.print_graphs.specs.declared.closing.Ends.{Ends}
use Rattle.print_graphs.specs.GraphOf.{edge_in}
use Rattle.print_graphs.specs.GraphText.{is_loop}

eqb_turned : (a b : ℕ) → eqb a b ≡ eqb b a
eqb_turned a b = elim (eqb_tells a b) [
  | inl same ↦ same.0 ∙ sym (eq-eqb b a (sym same.1))
  | inr ne ↦ (elim (eqb_tells b a) [ inl other ↦ absurd (ne.1 (sym other.1)) | inr other ↦ ne.0 ∙ sym other.0 ])
]

-- an edge that leads from the one location to the other is that of both
is_the_edge : (from onto : ℕ) (edge : ℕ × ℕ) → leads from onto edge ≡ true → edge ≡ (from, onto)
is_the_edge from onto edge led = elim (eqb_tells edge.0 from) [
  | inl first ↦ (elim (eqb_tells edge.1 onto) [
    | inl second ↦ ap (λ (n : ℕ). (n, edge.1)) first.1 ∙ ap (λ (n : ℕ). (from, n)) second.1
    | inr ne ↦ absurd (clash (sym (ap (λ (b : Bool). eqb edge.0 from && b) ne.0 ∙ ap (λ (b : Bool). b && false) first.0)
        ∙ led))
  ])
  | inr ne ↦ absurd (clash (sym (ap (λ (b : Bool). b && eqb edge.1 onto) ne.0) ∙ led))
]
  where
    clash : false ≡ true → ⊥
    clash e = cc

-- none of the edges before one is that edge
pub none_before : (edges : List (ℕ × ℕ)) (k : ℕ) (edge : ℕ × ℕ) → AreApart edges → slice_get edges k ≡ Some edge
    → is_loop (take k edges) edge.0 edge.1 ≡ false
none_before [] zero edge apart at = refl
none_before [] (suc k) edge apart at = refl
none_before (one ∷ edges) zero edge apart at = refl
none_before (one ∷ edges) (suc k) edge apart at =
    go (leads edge.0 edge.1 one) refl (none_before edges k edge apart.1 at)
  where
    go : (b : Bool) → leads edge.0 edge.1 one ≡ b → is_loop (take k edges) edge.0 edge.1 ≡ false
        → (leads edge.0 edge.1 one || is_loop (take k edges) edge.0 edge.1) ≡ false
    go true led behind =
        absurd (apart.0 (subst (λ (some : ℕ × ℕ). Contains edges some) (sym (is_the_edge edge.0 edge.1 one led))
        (contains_from_get edges k edge at)))
    go false none behind =
        ap (λ (b : Bool). b || is_loop (take k edges) edge.0 edge.1) none ∙ behind

-- the edges before one, and that one
pub one_more : (edges : List (ℕ × ℕ)) (k : ℕ) (edge : ℕ × ℕ) → slice_get edges k ≡ Some edge
    → take (k + 1) edges ≡ take k edges ++ edge ∷ []
one_more edges k edge at =
    take_more edges k edge (slice_get_within edges k edge at)
    ∙ ap (λ (one : ℕ × ℕ). take k edges ++ one ∷ []) (get_or_from_slice_get edges k edge edge at)

-- an edge by its place
pub edge_at : (edges : List Edge) (k : ℕ) (edge : Edge) → k < length edges → edge ≡ get_or edges k edge
    → slice_get (map edge_of edges) k ≡ Some (edge_of edge)
edge_at edges k edge inside is =
    slice_get-map edge_of edges k ∙ ap (option_map edge_of) (slice_get-get_or edges k edge inside)
    ∙ ap (λ (one : Edge). Some (edge_of one)) (sym is)

module _ (eq : Ends → Ends → Bool)
    (law : (a b : Ends) → eq a b ≡ (eqb a.from.number b.from.number && eqb a.onto.number b.onto.number)) where
  turned : (a b : Ends) → eq a b ≡ leads a.from.number a.onto.number (edge_in b)
  turned a b =
      law a b
      ∙ ap (λ (t : Bool). t && eqb a.onto.number b.onto.number) (eqb_turned a.from.number b.from.number)
      ∙ ap (λ (t : Bool). eqb b.from.number a.from.number && t) (eqb_turned a.onto.number b.onto.number)

  -- an edge is found in the set where it is one of the edges
  pub found_in_set : (one : Ends) (all : List Ends)
      → list_any (eq one) all ≡ is_loop (map edge_in all) one.from.number one.onto.number
  found_in_set one [] = refl
  found_in_set one (other ∷ all) =
      ap (λ (t : Bool). t || list_any (eq one) all) (turned one other)
      ∙ ap (λ (t : Bool). leads one.from.number one.onto.number (edge_in other) || t) (found_in_set one all)

  pushed : (all : List Ends) (one : Ends) → map edge_in (all ++ one ∷ []) ≡ map edge_in all ++ edge_in one ∷ []
  pushed [] one = refl
  pushed (other ∷ all) one = ap (λ (edges : List (ℕ × ℕ)). edge_in other ∷ edges) (pushed all one)

  -- a new one stands behind the others
  pub added : (all : List Ends) (one : Ends) → is_loop (map edge_in all) one.from.number one.onto.number ≡ false
      → map edge_in (if list_any (eq one) all then all else all ++ one ∷ []) ≡ map edge_in all ++ edge_in one ∷ []
  added all one new =
      ap (λ (b : Bool). map edge_in (if b then all else all ++ one ∷ [])) (found_in_set one all ∙ new) ∙ pushed all one

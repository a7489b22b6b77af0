-- How a hop that goes on is taken.
use Rattle.std.proofs.Common.{◌≡◌, ℕ, suc, ◌<◌, List, ◌∷◌, ap, sym, ◌∙◌, subst, inl, inr, Option, arith}
use Rattle.std.specs.Prelude.{Contains}
use Rattle.machine_steps.specs.Ways.{Way, to}
use Rattle.base_graphs.proofs.Lists.{contains_from_get}
use Rattle.flow_graph.specs.Hops.{Hop, hops, IsEdge}
use Rattle.flow_graph.specs.Walk.{Setting}
use Rattle.bound_scan.specs.declared.latest.Latest.{Latest}
use Rattle.bound_scan.specs.declared.key_hop.KeyHop.{KeyHop}
use Rattle.bound_scan.specs.Keys.{keys_of, place_at, IsOrdered}
use Rattle.bound_scan.proofs.Onward.{leads_on}
use Rattle.bound_scan.proofs.Raises.{raised_agree}
use Rattle.bound_scan.specs.Scanned.{cell_at, raised, Taking, LeadsOn}
use Rattle.bound_scan.specs.ScanOf.{Goes, IsAgreed}
use Rattle.bound_scan.proofs.Scans.{Comes, take_barred, take_on}

module _ (g : Setting) (order : List ℕ) (ordered : IsOrdered g.loads g.notes g.start order) (key : ℕ)
    (below : key < keys_of g.notes.marks order) where
  -- a hop that goes on is along an edge
  pub edge_of : (hop : Hop) (next : ℕ) → Contains (hops g.loads g.notes (place_at order key)) hop → hop.way ≡ to next
      → IsEdge g.loads g.notes (place_at order key) next
  edge_of hop next has goes = (
    hop.ins,
    subst (λ (w : Way).
        Contains (hops g.loads g.notes (place_at order key)) (record { ins = hop.ins; way = w })) goes has,
  )

  pub goes_agreed : (hop : Hop) (next : ℕ) (new : Latest) (cells : List (Option Latest)) (last : Latest)
      (cells' : List (Option Latest)) (last' : Latest)
      → Contains (hops g.loads g.notes (place_at order key)) hop → hop.way ≡ to next
      → Goes g order key next new cells last cells' last' → IsAgreed key cells cells'
  goes_agreed hop next new cells last cells' last' has goes (inl barred) other within =
      ap (λ (all : List (Option Latest)). cell_at all other) barred.1
  goes_agreed hop next new cells last cells' last' has goes (inr onto) other within =
      let leads : LeadsOn g order key hop onto.0 =
      leads_on g order ordered key hop onto.0 next below has goes onto.1 onto.2 in
      ap (λ (all : List (Option Latest)). cell_at all other) onto.3
      ∙ raised_agree cells (suc key) onto.0 new (omega (arith, leads.later)) other within

  pub goes_taken : (clock : ℕ) (origin : KeyHop) (hop : Hop) (next : ℕ) (new : Latest) (cells : List (Option Latest))
      (last : Latest) (cells' : List (Option Latest)) (last' : Latest)
      → Comes g order key clock origin hop new → hop.way ≡ to next → Goes g order key next new cells last cells' last'
      → (left : List Hop) → Taking g order key clock (hop ∷ left) cells last
      → Taking g order key clock left cells' last'
  goes_taken clock origin hop next new cells last cells' last' comes goes (inl barred) left taking =
      subst (λ (all : List (Option Latest)). Taking g order key clock left all last') (sym barred.1)
      (subst (λ (l : Latest). Taking g order key clock left cells l) (sym barred.2)
      (take_barred g order key clock hop next left cells last goes barred.0 taking))
  goes_taken clock origin hop next new cells last cells' last' comes goes (inr onto) left taking =
      let leads : LeadsOn g order key hop onto.0 =
      leads_on g order ordered key hop onto.0 next below
      (contains_from_get (hops g.loads g.notes (place_at order key)) origin.number hop comes.is) goes onto.1 onto.2 in
      subst (λ (all : List (Option Latest)). Taking g order key clock left all last') (sym onto.3)
      (subst (λ (l : Latest). Taking g order key clock left (raised cells onto.0 new) l) (sym onto.4)
      (take_on g order key clock origin hop new onto.0 left cells last comes leads taking))

-- Of Raised::forget: where an edge led nothing stands any more, and edges led wherever anything did.
use Rattle.std.proofs.Common.{◌≡◌, ℕ, ◌≤◌, List, Some, length, refl, sym, ap, ◌∙◌, inl, inr, arith}
use Rattle.std.specs.Prelude.{slice_get}
use Rattle.std.proofs.lemmas.Bool.{cases_lt}
use Rattle.std.proofs.lemmas.Option.{slice_get-get_or, slice_get_within}
use Rattle.base_graphs.proofs.Lists.{contains_at}
use Rattle.ceiling_rows.specs.declared.row.Edge.{Edge}
use Rattle.ceiling_rows.proofs.Bands.{emptied, none_left}
use Rattle.ceiling_rows.proofs.raised.Raised.forget.Goals as goal

pub loop-edge-init : goal.loop-edge-init
loop-edge-init c slot hop at =
    let so = c.requires slot hop at in
    let place = contains_at c.args.edges.now so.0 so.1 in
    (place.0, so.0, omega arith, place.1, so.2)

pub invariant_of-self : goal.invariant_of-self
invariant_of-self c = record {
  long = c.loop-edge.self.long;
  within = λ k x at. c.loop-edge.self.within k x (emptied c.loop-edge.self.onward.items c.from.result k x
      (omega (arith, c.from.ensures, c.edge-item.result.onto.within, c.loop-edge.self.long, c.loop-edge.self.onward.ok.0))
      at).1;
}

pub loop-edge-preserved : goal.loop-edge-preserved
loop-edge-preserved c slot hop at =
    let edges = c.args.edges.now in
    let index = c.loop-edge.edge-index in
    let was =
    emptied c.loop-edge.self.onward.items c.from.result slot hop
    (omega (arith, c.from.ensures, c.edge-item.result.onto.within, c.loop-edge.self.long, c.loop-edge.self.onward.ok.0))
    at in
    let so = c.loop-edge.invariant slot hop was.1 in
    elim (cases_lt index so.0) [
      | inl later ↦ (so.0, so.1, omega (arith, later), so.3, so.4)
      | inr here ↦ (
          let same : so.0 ≡ index = omega (arith, so.2, here) in
          let item : slice_get edges index ≡ Some c.edge-item.result =
          slice_get-get_or edges index c.edge-item.result c.loop-edge-test.true ∙ ap Some (sym c.edge-item.is) in
          let both : Some so.1 ≡ Some c.edge-item.result = sym so.3 ∙ ap (slice_get edges) same ∙ item in
          let own : so.1 ≡ c.edge-item.result = cc in
          let there : c.from.result ≡ slot =
          c.from.ensures ∙ ap (λ (one : Edge). one.onto.number) (sym own) ∙ so.4 in
          absurd (was.0 there))
    ]

-- no edge is left
left : (edges : List Edge) (index slot : ℕ) → length edges ≤ index
    → (k : ℕ) × (edge : Edge) × (index ≤ k) × (slice_get edges k ≡ Some edge) × (edge.onto.number ≡ slot) → ⊥
left edges index slot past so = omega (arith, past, so.2, slice_get_within edges so.0 so.1 so.3)

pub invariant_of-self-2 : goal.invariant_of-self-2
invariant_of-self-2 c = record {
  long = c.loop-edge.self.long;
  within = λ k x at. absurd (left c.args.edges.now c.loop-edge.edge-index k c.loop-edge-test.false
      (c.loop-edge.invariant k x at));
}

pub returns : goal.returns
returns c = record {
  stop = refl;
  most = refl;
  onward = none_left c.loop-edge.self.onward.items
      (λ k x at. left c.args.edges.now c.loop-edge.edge-index k c.loop-edge-test.false (c.loop-edge.invariant k x at));
}

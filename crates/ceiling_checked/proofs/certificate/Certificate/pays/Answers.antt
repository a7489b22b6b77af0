use Rattle.std.proofs.Common.{◌≡◌, ◌⊎◌, List, Some, sym, ap, subst, ◌∙◌, inl, inr, arith}
use Rattle.std.specs.Prelude.{Contains, slice_get}
use Rattle.std.proofs.lemmas.Option.{slice_get-get_or}
use Rattle.ceiling_rows.specs.declared.site_row.SiteEdge.{SiteEdge}
use Rattle.ceiling_rows.proofs.Pushed.{all_taken, taken_cases}
use Rattle.ceiling_checked.specs.Paying.{IsEdgePaid, IsShut}
use Rattle.ceiling_checked.proofs.certificate.Certificate.pays.Goals as goal

pub loop-edge-preserved : goal.loop-edge-preserved
loop-edge-preserved c edge there =
    let edges = c.deref-edge-items.result.now in
    let k = c.loop-edge.edge-index in
    let here : slice_get edges k ≡ Some c.edge-item.result =
    slice_get-get_or edges k c.edge-item.result c.loop-edge-test.true ∙ ap Some (sym c.edge-item.is) in
    elim (taken_cases edges k c.edge-item.result edge here there) [
      | inl before ↦ c.loop-edge.invariant edge before
      | inr same ↦ subst (λ (one : SiteEdge). IsShut c.args.marks.now one
          ⊎ IsEdgePaid c.args.marks.now c.args.self.now c.args.number c.args.level one) same
          (c.pays_edge.ensures c.if-not-pays_edge.false)
    ]

pub returns : goal.returns
returns c stop = record {
  ends = grind arith;
  edges = λ edge there.
      c.loop-edge.invariant edge
      (subst (λ (all : List SiteEdge). Contains all edge)
      (sym c.deref-edge-items.ensures.value
      ∙ sym (all_taken c.deref-edge-items.result.now c.loop-edge.edge-index c.loop-edge-test.false)) there);
}

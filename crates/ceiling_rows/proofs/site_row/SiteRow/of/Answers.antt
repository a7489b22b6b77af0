-- Of SiteRow::of: one more edge, with a mark or without, is within the latest end then.
use Rattle.std.proofs.Common.{◌≡◌, ℕ, ◌+◌, ◌≤◌, not, true, List, Option, Some, None, take, ap, sym, ◌∙◌, subst, inl, inr, arith}
use Rattle.std.specs.Prelude.{slice_get}
use Rattle.std.specs.Option.{is_some}
use Rattle.std.proofs.lemmas.Option.{slice_get-get_or}
use Rattle.base_graphs.proofs.Lists.{contains_none}
use Rattle.ceiling_rows.specs.declared.site_row.SiteEdge.{SiteEdge}
use Rattle.ceiling_rows.specs.SiteRows.{EndWithin}
use Rattle.ceiling_rows.proofs.Pushed.{all_taken, taken_cases}
use Rattle.ceiling_rows.proofs.site_row.SiteRow.of.Goals as goal
use Rattle.ceiling_rows.proofs.site_row.SiteRow.of.Goals.{then-is_none+then-stop-edge, else-is_none}
use Rattle.ceiling_rows.proofs.site_row.SiteRow.of.Goals.{else-is_none-via-then-is_none+else-stop-edge}
use Rattle.ceiling_rows.proofs.site_row.SiteRow.of.Goals.{else-is_none-via-else-is_none}

marked : (mark : Option ℕ) → is_some mark ≡ true → mark ≡ None → ⊥
marked None some none = cc
marked (Some k) some none = cc

within_more : (edges : List SiteEdge) (k stop more : ℕ) (edge : SiteEdge) → slice_get edges k ≡ Some edge → stop ≤ more
    → (edge.mark ≡ None → edge.stop ≤ more) → EndWithin stop (take k edges) → EndWithin more (take (k + 1) edges)
within_more edges k stop more edge here later own within other there bare =
    elim (taken_cases edges k edge other here there) [
      | inl before ↦ omega (arith, within other before bare, later)
      | inr same ↦ subst (λ (e : SiteEdge). e.stop ≤ more) same (own (ap (λ (e : SiteEdge). e.mark) same ∙ bare))
    ]

pub loop-edge-init : goal.loop-edge-init
loop-edge-init c = record {
  own = omega arith;
  within = λ edge there. absurd (contains_none edge there);
}

pub loop-edge-preserved : goal.loop-edge-preserved
loop-edge-preserved c =
    let edge = c.edge-item.result in
    let more = c.if-is_none.stop in
    let both : (c.loop-edge.stop ≤ more) × (edge.mark ≡ None → edge.stop ≤ more) = elim c.if-is_none.branch [
      | then-is_none+then-stop-edge w ↦ (omega (arith, w.stop-is, w.if-stop-edge), λ bare. omega (arith, w.stop-is))
      | else-is_none w ↦ (
        omega (arith, w.stop-is),
        λ bare. elim w.else-is_none.branch [
          | else-is_none-via-then-is_none+else-stop-edge w' ↦ omega (arith, w.stop-is, w'.if-stop-edge)
          | else-is_none-via-else-is_none w' ↦ absurd
              (marked edge.mark (c.is_none.ensures ∙ ap not w'.if-is_none.false) bare)
        ],
      )
    ] in
    record {
      own = omega (arith, c.loop-edge.invariant.own, both.0);
      within = within_more c.deref-edge-items.result.now c.loop-edge.edge-index c.loop-edge.stop more edge
          (slice_get-get_or c.deref-edge-items.result.now c.loop-edge.edge-index edge c.loop-edge-test.true
          ∙ ap Some (sym c.edge-item.is)) both.0 both.1 c.loop-edge.invariant.within;
    }

pub returns-clause-own : goal.returns-clause-own
returns-clause-own c = c.loop-edge.invariant.own

pub returns-clause-within : goal.returns-clause-within
returns-clause-within c =
    subst (EndWithin c.loop-edge.stop)
    (all_taken c.deref-edge-items.result.now c.loop-edge.edge-index c.loop-edge-test.false
    ∙ c.deref-edge-items.ensures.value) c.loop-edge.invariant.within

use Rattle.std.proofs.Common.{◌≡◌, ℕ, Some, ap, sym, subst, ◌∙◌, inl, inr, arith}
use Rattle.std.specs.Prelude.{slice_get}
use Rattle.std.proofs.lemmas.Bool.{cases_lt}
use Rattle.std.proofs.lemmas.Option.{same_Some, slice_get-get_or, slice_get_within}
use Rattle.ceiling_rows.specs.declared.site_row.SiteRow.{SiteRow}
use Rattle.ceiling_checked.specs.AtSite.{at_number}
use Rattle.ceiling_checked.specs.Paying.{IsPaid}
use Rattle.ceiling_checked.proofs.certificate.Certificate.pays_all.Goals as goal

pub loop-number-preserved : goal.loop-number-preserved
loop-number-preserved c number high level row at there = elim (cases_lt number c.loop-number.number) [
  | inl before ↦ c.loop-number.invariant number before level row at there
  | inr last ↦ (
      let rows = c.args.rows.now in
      let here = c.loop-number.number in
      let same : here ≡ number = omega (arith, high, last) in
      let own = c.index-rows-number.result in
      let is : slice_get rows here ≡ Some own =
      slice_get-get_or rows here own c.loop-number-test.true ∙ ap Some (sym c.index-rows-number.is) in
      let row_is : own ≡ row = same_Some own row (sym is ∙ ap (slice_get rows) same ∙ there) in
      subst (λ (n : ℕ). IsPaid c.args.marks.now c.args.self.now n level row) same
      (subst (λ (r : SiteRow). IsPaid c.args.marks.now c.args.self.now here level r) row_is
      (c.pays_at.ensures c.if-not-pays_at.false level
      (ap (at_number c.args.self.now.levels.items) same ∙ at))))
]

pub returns : goal.returns
returns c _ number level row at there =
    c.loop-number.invariant number
    (omega (arith, slice_get_within c.args.rows.now number row there, c.loop-number-test.false)) level row at there

use Rattle.std.proofs.Common.{◌≡◌, ℕ, List, Option, Some, None, subst, ap, ◌∙◌, refl, inl, inr, arith}
use Rattle.std.specs.Prelude.{slice_get, IfSome, IfNone}
use Rattle.std.proofs.lemmas.Bool.{cases_lt}
use Rattle.flow_graph.specs.Flow.{deck_of, executed_in, notes_of}
use Rattle.flow_graph.specs.SettingOf.{setting}
use Rattle.ceiling_rows.specs.declared.row.Row.{Row}
use Rattle.ceiling_rows.specs.Rows.{IsRowNumber, IsRowOf}
use Rattle.ceiling_rows.proofs.Pushed.{pushed, pushed_last, pushed_within}
use Rattle.ceiling_rows.proofs.rows.rows_of.Goals as goal

-- a row is made, or the number is none of a row
made_row : (executed : List ℕ) (slot : ℕ) (made : Option Row) → IfNone made (¬ IsRowNumber executed slot)
    → IsRowNumber executed slot → (row : Row) × (made ≡ Some row)
made_row executed slot None none is = absurd (none is)
made_row executed slot (Some row) none is = (row, refl)

pub loop-number-preserved : goal.loop-number-preserved
loop-number-preserved c =
    let g = setting (deck_of c.args.flow.now) c.args.times.now (notes_of c.args.flow.now) in
    let executed = executed_in c.args.flow.now in
    let rows = c.loop-number.rows.items in
    let number = c.loop-number.number in
    let made = c.in_ok-row_at.field-0 in
    record {
      long = omega (arith, c.in_ok-push.ensures.len, c.loop-number.invariant.long);
      each = λ slot row at.
          elim (pushed rows made (Some row) slot
          (subst (λ (all : List (Option Row)). slice_get all slot ≡ Some (Some row)) c.in_ok-push.ensures.items at)) [
            | inl before ↦ c.loop-number.invariant.each slot row before
            | inr last ↦ (
                let here : number ≡ slot = omega (arith, last.0, c.loop-number.invariant.long, c.loop-number.rows.ok.0) in
                subst (λ (n : ℕ). IsRowOf g executed n row) here
                (subst (λ (one : Option Row). IfSome one (IsRowOf g executed number)) last.1 c.in_ok-row_at.ensures.row))
          ];
      all = λ slot high is. elim (cases_lt slot number) [
        | inl before ↦ (
            let had = c.loop-number.invariant.all slot before is in (
              had.0,
              ap (λ (all : List (Option Row)). slice_get all slot) c.in_ok-push.ensures.items
                  ∙ pushed_within rows made slot (Some had.0) had.1,
            ))
        | inr last ↦ (
            let here : slot ≡ number = omega (arith, high, last) in
            let one = made_row executed number made c.in_ok-row_at.ensures.none
            (subst (IsRowNumber executed) here is) in (
              one.0,
              ap (λ (all : List (Option Row)). slice_get all slot) c.in_ok-push.ensures.items
                  ∙ pushed_last rows made slot
                  (omega (arith, here, c.loop-number.invariant.long, c.loop-number.rows.ok.0)) ∙ ap Some one.1,
            ))
      ];
      forgotten = c.in_ok-row_at.ensures.forgotten;
    }

pub returns : goal.returns
returns c = record {
  each = c.loop-number.invariant.each;
  all = λ slot below is. c.loop-number.invariant.all slot (omega (arith, below, c.loop-number-test.false)) is;
}

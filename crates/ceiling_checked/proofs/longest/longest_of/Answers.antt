-- Of longest_of: each row so far is no longer, and the longest is one of them, or 1.
use Rattle.std.proofs.Common.{◌≡◌, ℕ, ◌≤◌, List, Option, Some, None, ap, sym, ◌∙◌, subst, inl, inr, arith}
use Rattle.std.specs.Prelude.{slice_get, IfNone, IfSome}
use Rattle.std.proofs.lemmas.Bool.{cases_lt}
use Rattle.std.proofs.lemmas.Option.{slice_get-get_or, slice_get_within}
use Rattle.ceiling_rows.specs.declared.row.Row as held
use Rattle.ceiling_checked.proofs.longest.longest_of.Goals as goal

-- what a row says is no more than what none of them passes
below : (rows : List (Option held.Row)) (slot told most : ℕ) (got : Option held.Row) → slice_get rows slot ≡ Some got
    → IfNone got (told ≡ 0) → IfSome got (λ row. told ≡ row.most)
    → ((slot : ℕ) (row : held.Row) → slice_get rows slot ≡ Some (Some row) → row.most ≤ most) → told ≤ most
below rows slot told most None at none some each = omega (arith, none)
below rows slot told most (Some row) at none some each = omega (arith, some, each slot row at)

-- and no less than what it says itself
own : (rows : List (Option held.Row)) (slot told : ℕ) (got : Option held.Row) (row : held.Row) → slice_get rows slot ≡ Some got
    → IfSome got (λ one. told ≡ one.most) → slice_get rows slot ≡ Some (Some row) → row.most ≤ told
own rows slot told got row at some there =
    let both : Some got ≡ Some (Some row) = sym at ∙ there in
    let same : got ≡ Some row = cc in
    let is : told ≡ row.most = subst (λ (one : Option held.Row). IfSome one (λ one. told ≡ one.most)) same some in
    omega (arith, is)

pub loop-row-preserved : goal.loop-row-preserved
loop-row-preserved c =
    let rows = c.args.rows.now in
    let k = c.loop-row.row-index in
    let at : slice_get rows k ≡ Some c.row-item.result =
    slice_get-get_or rows k c.row-item.result c.loop-row-test.true ∙ ap Some (sym c.row-item.is) in
    record {
      some = omega (arith, c.loop-row.invariant.some, c.max-longest.ensures);
      each = λ slot row high there. elim (cases_lt slot k) [
        | inl before ↦ omega (arith, c.loop-row.invariant.each slot row before there, c.max-longest.ensures)
        | inr last ↦ (
            let same : slot ≡ k = omega (arith, high, last) in
            omega (
              arith,
              own rows k c.most_of.result c.row-item.result row at c.most_of.ensures.some
                  (ap (slice_get rows) (sym same) ∙ there),
              c.max-longest.ensures,
            ))
      ];
      least = λ most one each. omega (
        arith,
        c.loop-row.invariant.least most one each,
        below rows k c.most_of.result most c.row-item.result at c.most_of.ensures.none c.most_of.ensures.some each,
        c.max-longest.ensures,
      );
    }

pub returns-clause-each : goal.returns-clause-each
returns-clause-each c slot row there =
    c.loop-row.invariant.each slot row
    (omega (arith, c.loop-row-test.false, slice_get_within c.args.rows.now slot (Some row) there)) there

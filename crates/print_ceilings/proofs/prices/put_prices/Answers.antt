-- Of put_prices: the line of a mark is what ceiling and walk have at its place.
use Rattle.std.proofs.Common.{ℕ, ap, ◌∙◌}
use Rattle.std.specs.Prelude.{slice_index}
use Rattle.ceiling_checked.specs.CeilingOf.{prices_of}
use Rattle.print_lines.proofs.Lines.{numbered_last, numbered_more}
use Rattle.print_lines.proofs.Passing.{passes_as}
use Rattle.print_ceilings.specs.CeilingText.{price_line, price_line_at}
use Rattle.print_ceilings.proofs.prices.put_prices.Goals as goal

pub loop-place-preserved : goal.loop-place-preserved
loop-place-preserved g c =
    let bracket = c.args.bracket.now in
    let place = c.loop-place.place in
    let mark = c.index-marks-place.result in
    numbered_more (price_line_at bracket) c.args.marks.now place mark c.loop-place-test.true c.index-marks-place.is
    c.loop-place.invariant
    (passes_as (ap (λ (n : ℕ). price_line mark n c.passes.result) c.price-price.ensures
    ∙ ap (price_line mark (slice_index (prices_of bracket.ceiling) place)) c.passes.ensures) c.put_price.ensures)

pub returns : goal.returns
returns g c =
    numbered_last (price_line_at c.args.bracket.now) c.args.marks.now c.loop-place.place c.loop-place-test.false
    c.loop-place.invariant

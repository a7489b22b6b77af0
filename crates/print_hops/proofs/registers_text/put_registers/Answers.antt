use Rattle.std.proofs.Common.{◌≡◌, ◌^◌, ◌<◌, ℤ, to_z, of_z, ap, ◌∙◌, arith}
use Rattle.std.specs.Int.{w128}
use Rattle.std.proofs.lemmas.Int.{to_z-of_z, fits_signed_from_abs}
use Rattle.std.specs.Prelude.{unsigned_abs}
use Rattle.base_words.specs.Word.{spelling}
use Rattle.print_lines.proofs.Passing.{◌⊳◌, passes_as}
use Rattle.print_hops.specs.ContentsText.{accumulator_text, latch_text, remainder_text}
use Rattle.print_hops.proofs.registers_text.put_registers.Goals as goal

-- the accumulator's number, handed on
same : (a : ℤ) → unsigned_abs a < 10 ^ 20 → to_z w128 (of_z w128 a) ≡ a
same a twenty = to_z-of_z w128 a (fits_signed_from_abs w128 a (omega (arith, twenty)))

pub returns : goal.returns
returns g c cards =
    let number = same c.accumulator.result c.accumulator.ensures.twenty ∙ c.accumulator.ensures.number cards in
    c.put.ensures
    ⊳ passes_as (c.spelled.ensures ∙ ap accumulator_text number) c.put-2.ensures
    ⊳ passes_as (ap remainder_text (c.remainder.ensures cards)) c.put_remainder.ensures
    ⊳ c.put-3.ensures
    ⊳ passes_as (c.spelling_of.ensures ∙ ap spelling (c.distributor.ensures cards)) c.put-4.ensures
    ⊳ passes_as (c.latch_text.ensures ∙ ap latch_text (c.latch.ensures cards)) c.put-5.ensures

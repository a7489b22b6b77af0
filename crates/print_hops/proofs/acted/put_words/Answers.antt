use Rattle.std.proofs.Common.{ℕ, ◌+◌, ap, ◌∙◌, append_assoc}
use Rattle.std.specs.Prelude.{slice_range}
use Rattle.base_words.specs.Word.{spaced}
use Rattle.print_lines.proofs.Passing.{◌⊳◌, passes_as}
use Rattle.print_hops.proofs.acted.put_words.Goals as goal

pub returns : goal.returns
returns g c =
    let there =
    ap (λ (n : ℕ). spaced (slice_range c.args.drum.now n (n + c.from.result))) c.from-first.ensures
    ∙ ap (λ (n : ℕ). spaced (slice_range c.args.drum.now c.args.at (c.args.at + n))) c.from.ensures in
    passes_as (simp append_assoc)
    (c.put.ensures ⊳ passes_as c.four_digits.ensures c.put-2.ensures ⊳ passes_as there c.put_spaced.ensures)

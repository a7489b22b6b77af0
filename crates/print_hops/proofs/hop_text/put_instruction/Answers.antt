use Rattle.std.proofs.Common.{ℕ, List, ◌++◌, ap, ◌∙◌}
use Rattle.std.specs.Prelude.{codes}
use Rattle.base_words.specs.Numeral.{digits_of}
use Rattle.print_lines.proofs.Passing.{◌⊳◌, passes_as}
use Rattle.print_hops.proofs.hop_text.put_instruction.Goals as goal

pub returns : goal.returns
returns g c =
    let address : ℕ → List ℕ = λ n. codes " " ++ digits_of 4 n in
    c.put.ensures ⊳ passes_as (c.two_digits.ensures ∙ ap (digits_of 2) c.op.ensures) c.put-2.ensures
    ⊳ passes_as (ap address c.d.ensures) c.put_address.ensures
    ⊳ passes_as (ap address c.i.ensures) c.put_address-2.ensures

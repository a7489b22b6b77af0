use Rattle.std.proofs.Common.{◌≡◌, ℕ, List, ◌++◌, append_assoc}
use Rattle.std.specs.Prelude.{codes, decimal}
use Rattle.print_lines.proofs.Passing.{◌⊳◌, passes_as}
use Rattle.print_ceilings.proofs.part_line.put_again.Goals as goal

grouped : (part name begun name' ended last : List ℕ)
    → part ++ (name ++ begun) ++ (name' ++ ended) ++ last ≡ part ++ name ++ begun ++ name' ++ ended ++ last
grouped part name begun name' ended last = simp append_assoc

pub returns : goal.returns
returns g c =
    passes_as
    (grouped (codes "part " ++ decimal c.args.part) (codes " again begun ") (decimal c.args.begun) (codes " ended ")
    (decimal c.args.ended) (codes "\n"))
    (c.put_named.ensures ⊳ c.put_named-2.ensures ⊳ c.put_named-3.ensures ⊳ c.put.ensures)

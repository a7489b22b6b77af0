use Rattle.std.proofs.Common.{flat_map, take}
use Rattle.std.specs.List.{enumerate_from}
use Rattle.print_lines.specs.Stands.{Passes}
use Rattle.print_ceilings.specs.CeilingText.{price_line_at}
use Rattle.print_ceilings.proofs.prices.put_prices.Given as goal

-- the lines so far were put
abbrev pub invariant-loop-place : goal.invariant-loop-place
invariant-loop-place g l = Passes (g.O.Output.device l.fn.writer) l.fn.sheet (g.O.Output.device l.writer) l.sheet
    (flat_map (price_line_at l.bracket) (take l.place (enumerate_from 0 l.marks)))

use Rattle.std.proofs.Common.{flat_map, take}
use Rattle.print_lines.specs.Stands.{Passes}
use Rattle.print_walks.specs.TableText.{count_text}
use Rattle.print_walks.proofs.table.line.put_counts.Given as goal

-- the counts so far were put
abbrev pub invariant-loop-count : goal.invariant-loop-count
invariant-loop-count g l =
    Passes (g.O.Output.device l.fn.writer) l.fn.sheet (g.O.Output.device l.writer) l.sheet
    (flat_map count_text (take l.count-index l.counts))

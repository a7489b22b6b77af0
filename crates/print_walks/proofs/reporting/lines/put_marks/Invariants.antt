use Rattle.std.proofs.Common.{◌*◌, ◌≤◌, List, flat_map, length, take}
use Rattle.flow_walks.specs.Visited.{Visited}
use Rattle.print_lines.specs.Stands.{Passes}
use Rattle.print_walks.specs.Report.{mark_line}
use Rattle.print_walks.specs.TalliesOf.{ArePasses}
use Rattle.print_walks.proofs.reporting.lines.put_marks.Given as goal

-- the lines of the marks so far were put, and none is long
abbrev pub invariant-loop-place : goal.invariant-loop-place
invariant-loop-place g l = record {
  so_far : (walk : List Visited) → ArePasses l.marks walk l.passed
      → Passes (g.O.Output.device l.fn.writer) l.fn.sheet (g.O.Output.device l.writer) l.sheet
      (flat_map (mark_line walk) (take l.place l.marks));
  short : (walk : List Visited) → ArePasses l.marks walk l.passed
      → length (flat_map (mark_line walk) (take l.place l.marks)) ≤ 120 * l.place;
}

use Rattle.std.proofs.Common.{flat_map, take}
use Rattle.base_notes.specs.Entries.{entry_in}
use Rattle.flow_walks.specs.declared.visit.Visit.{Visit}
use Rattle.flow_walks.specs.Visited.{seen_visit}
use Rattle.print_lines.specs.Stands.{Passes}
use Rattle.print_hops.specs.WalkText.{visit_line}
use Rattle.print_walks.proofs.walk.put_visits.Given as goal

-- the lines of the visits so far were put
abbrev pub invariant-loop-visit : goal.invariant-loop-visit
invariant-loop-visit g l =
    Passes (g.O.Output.device l.fn.writer) l.fn.sheet (g.O.Output.device l.writer) l.sheet
    (flat_map (λ (visit : Visit). visit_line (entry_in l.times) l.angle (seen_visit visit)) (take l.visit-index l.walk))

-- The lines of the worst walk. A location has four digits, an operation two, and other numbers are
-- plain decimal.
use Rattle.std.specs.Prelude.{ℕ, List, ◌++◌, codes, decimal, flat_map}
use Rattle.base_words.specs.declared.op.Op.{Op}
use Rattle.base_words.specs.Numeral.{digits_of}
use Rattle.base_notes.specs.declared.entry.Entry.{Entry}
use Rattle.machine_steps.specs.Ways.{Way, early, to, late}
use Rattle.flow_walks.specs.Visited.{Visited}
use Rattle.print_lines.specs.BoundText.{bound_text}
use Rattle.print_hops.specs.Moments.{moments_of}
use Rattle.print_hops.specs.MomentsText.{moments_text}

-- how a hop ends, or where it goes on
abbrev pub way_text : Way → List ℕ
way_text early = codes "early"
way_text (to next) = codes "to " ++ digits_of 4 next
way_text late = codes "late"

-- where a hop begins, its instruction, and how it ends
abbrev pub hop_text : Visited → List ℕ
hop_text visit =
    digits_of 4 visit.place ++ codes " " ++ digits_of 2 visit.ins.op
    ++ codes " " ++ digits_of 4 visit.ins.d ++ codes " " ++ digits_of 4 visit.ins.i
    ++ codes " " ++ way_text visit.way

-- the line of a hop, on a drum with this angle at time 0
abbrev pub visit_line : (Op → Entry) → ℕ → Visited → List ℕ
visit_line times angle visit =
    hop_text visit ++ codes " begun " ++ decimal visit.begun
    ++ moments_text (moments_of times angle visit.place visit.ins visit.way visit.begun)
    ++ codes " ended " ++ decimal visit.ended ++ codes "\n"

-- the lines of a walk's hops, and its time
abbrev pub walk_text : (Op → Entry) → ℕ → List Visited → ℕ → List ℕ
walk_text times angle walk bound = flat_map (visit_line times angle) walk ++ bound_text bound

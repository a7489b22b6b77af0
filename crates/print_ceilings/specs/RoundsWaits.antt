-- The lines of where the word times of a walk in rounds go.
use Rattle.std.specs.Prelude.{ℕ, List, ◌++◌, flat_map}
use Rattle.base_words.specs.declared.op.Op.{Op}
use Rattle.base_notes.specs.declared.entry.Entry.{Entry}
use Rattle.flow_walks.specs.Visited.{Visited}
use Rattle.ceiling_rounds.specs.InRounds as walks
use Rattle.ceiling_checked.specs.declared.bracket.Bracket.{Bracket}
use Rattle.print_hops.specs.WaitsText.{wait_line, walk_line}
use Rattle.print_ceilings.specs.CeilingText.{bracket_lines}

-- The lines of all kinds of hops of the walk beside a ceiling, each by its first, the line of all
-- its hops, and the lines of what it takes and of the ceiling.
abbrev pub rounds_waits_text : (Op → Entry) → Bracket → List Visited → List Visited → List ℕ
rounds_waits_text times bracket visits firsts =
    flat_map (wait_line times (walks.angle_of bracket.walk) visits) firsts
    ++ walk_line times (walks.angle_of bracket.walk) visits (walks.total_of bracket.walk)
    ++ bracket_lines bracket

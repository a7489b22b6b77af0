-- The lines of where the word times of a walk go. A location has four digits, an operation two, and
-- other numbers are plain decimal.
use Rattle.std.specs.Prelude.{ℕ, ◌-◌, List, ◌++◌, length, codes, decimal, flat_map, sum_by}
use Rattle.base_words.specs.declared.op.Op.{Op}
use Rattle.base_notes.specs.declared.entry.Entry.{Entry}
use Rattle.flow_walks.specs.Visited.{Visited}
use Rattle.print_lines.specs.BoundText.{bound_text}
use Rattle.print_hops.specs.MomentsText.{moment_text}
use Rattle.print_hops.specs.Waits.{alike, data_at, for_cards, for_data, for_instruction}
use Rattle.print_hops.specs.Waits.{next_at, time_alike}
use Rattle.print_hops.specs.WalkText.{hop_text}

-- The line of the hops of a kind, by one of them, by how many they are, and by the word times that
-- they take, that they wait for their instructions, and that they wait for their data.
abbrev pub kind_line : (Op → Entry) → ℕ → Visited → ℕ → ℕ → ℕ → ℕ → List ℕ
kind_line times angle hop visits time instruction operand =
    hop_text hop ++ codes " visits " ++ decimal visits ++ codes " time " ++ decimal time
    ++ codes " instruction " ++ decimal instruction ++ codes " data " ++ decimal operand
    ++ codes " work " ++ decimal (time - instruction - operand)
    ++ moment_text (codes " data-at ") (data_at times angle hop)
    ++ moment_text (codes " next-at ") (next_at angle hop) ++ codes "\n"

-- that of the hops of a walk that are of the kind of one, the first of them
abbrev pub wait_line : (Op → Entry) → ℕ → List Visited → Visited → List ℕ
wait_line times angle walk first =
    let hops = alike first walk in
    kind_line times angle first (length hops) (time_alike walk first)
    (sum_by (for_instruction times angle) hops) (sum_by (for_data times angle) hops)

-- The line of all hops of a walk, by the word times that they take, that they wait for their
-- instructions, that they wait for their data, and that they wait for the card machine.
abbrev pub total_line : ℕ → ℕ → ℕ → ℕ → List ℕ
total_line time instruction operand cards =
    codes "total work " ++ decimal (time - instruction - operand - cards)
    ++ codes " instruction " ++ decimal instruction ++ codes " data " ++ decimal operand
    ++ codes " cards " ++ decimal cards ++ codes "\n"

-- that of a walk, which takes so many word times
abbrev pub walk_line : (Op → Entry) → ℕ → List Visited → ℕ → List ℕ
walk_line times angle walk time =
    total_line time (sum_by (for_instruction times angle) walk)
    (sum_by (for_data times angle) walk) (sum_by (for_cards times) walk)

-- the lines of all kinds, of all hops, and of the time of the walk
abbrev pub waits_text : (Op → Entry) → ℕ → List Visited → List Visited → ℕ → List ℕ
waits_text times angle walk firsts bound =
    flat_map (wait_line times angle walk) firsts ++ walk_line times angle walk bound
    ++ bound_text bound

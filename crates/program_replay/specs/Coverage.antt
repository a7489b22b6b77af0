-- How much of what its notes allow a run comes to: how often it passes each mark at most, and which
-- patterns of each list it meets. A location has four digits, and other numbers are plain decimal.
use Rattle.std.specs.Prelude.{ℕ, max, Bool, true, false, ◌==◌, ◌&&◌, nat_le, if◌then◌else◌, List}
use Rattle.std.specs.Prelude.{[], ◌∷◌, ◌++◌, length, take, count_by, flat_map, slice_index, codes}
use Rattle.std.specs.Prelude.{decimal}
use Rattle.std.specs.List.{enumerate_from, list_any}
use Rattle.base_words.specs.declared.instruction.Instruction.{Instruction}
use Rattle.base_words.specs.Numeral.{digits_of}
use Rattle.base_notes.specs.declared.notes.mark.Mark.{Mark}
use Rattle.base_notes.specs.declared.notes.pattern.Pattern.{Pattern}
use Rattle.base_notes.specs.Allowed.{Listed, Notes}
use Rattle.machine_steps.specs.declared.left.Left.TheVariants as left
use Rattle.machine_steps.specs.Counts.{no_counts}
use Rattle.machine_steps.specs.Keeps.{counts_after, counts_over}
use Rattle.machine_steps.specs.Run.{Stride}
use Rattle.machine_steps.specs.Step.{instruction_in}
use Rattle.machine_steps.specs.declared.verdict.Verdict.{Verdict}
use Rattle.machine_steps.specs.declared.verdict.Verdict.TheVariants.{Left}
use Rattle.print_lines.specs.NameText.{name_text}

-- ---- how often marks are passed

-- the highest count that the mark with this index has: of these counts, and of those after each of
-- the strides
abbrev pub highest_from : Notes → ℕ → List ℕ → List Stride → ℕ
highest_from notes place counts [] = slice_index counts place
highest_from notes place counts (stride ∷ strides) =
    max (slice_index counts place)
    (highest_from notes place (counts_after notes counts stride) strides)

-- and of a run from its beginning; the step with which it leaves the notes counts too
abbrev pub most_passed : Notes → List Stride → ℕ → ℕ
most_passed notes strides place = highest_from notes place (no_counts notes.marks) strides

-- its count after the first so many strides; the most is the highest of these (`most_is_highest`)
abbrev pub count_after_first : Notes → List Stride → ℕ → ℕ → ℕ
count_after_first notes strides place n =
    slice_index (counts_over notes (no_counts notes.marks) (take n strides)) place

-- ---- which patterns are met

-- the pattern matches the instruction (`Matches`, as a test)
abbrev pub is_match : Pattern → Instruction → Bool
is_match pattern ins =
    ins.op == pattern.op && (nat_le pattern.d_from ins.d && (nat_le ins.d pattern.d_to
    && ins.i == pattern.i))

-- the stride fetches at the location a word whose instruction the pattern matches
abbrev pub meets : ℕ → Pattern → Stride → Bool
meets location pattern stride =
    stride.origin.sought == location && is_match pattern (instruction_in stride.origin)

-- one of the strides does
abbrev pub is_met : List Stride → ℕ → Pattern → Bool
is_met strides location pattern = list_any (meets location pattern) strides

-- how many patterns of a list are met
abbrev pub patterns_met : List Stride → Listed → ℕ
patterns_met strides list = count_by (is_met strides list.location) list.patterns

-- ---- the lines

-- the line of a mark that is passed so often at most, with its name at the end where it has one
abbrev pub mark_line : Mark → ℕ → List ℕ
mark_line mark passed =
    codes "mark " ++ digits_of 4 mark.from.number ++ codes " " ++ digits_of 4 mark.onto.number
    ++ codes " most-passed " ++ decimal passed ++ codes " of " ++ decimal mark.most
    ++ name_text mark.name ++ codes "\n"

-- the same of a mark with its index in the notes
abbrev pub mark_line_at : (ℕ → ℕ) → ℕ × Mark → List ℕ
mark_line_at passed noted = mark_line noted.1 (passed noted.0)

-- the line of a list of which so many patterns are met
abbrev pub list_line : Listed → ℕ → List ℕ
list_line list met =
    codes "list " ++ digits_of 4 list.location ++ codes " patterns-met " ++ decimal met
    ++ codes " of " ++ decimal (length list.patterns) ++ codes "\n"

-- A line for each mark of the notes, and then one for each list, in their order.
abbrev pub coverage_text : Notes → List Stride → List ℕ
coverage_text notes strides =
    flat_map (mark_line_at (most_passed notes strides)) (enumerate_from 0 notes.marks)
    ++ flat_map (λ list. list_line list (patterns_met strides list)) notes.lists

-- the verdict comes before any step
abbrev pub comes_at_once : Verdict → Bool
comes_at_once (Left left.Switch step used) = true
comes_at_once _ = false

-- the lines of a run with this verdict: none where that comes before any step
abbrev pub coverage_lines : Notes → List Stride → Verdict → List ℕ
coverage_lines notes strides verdict =
    if comes_at_once verdict then [] else coverage_text notes strides

-- What a coverage has seen of a run.
use Rattle.std.specs.Prelude.{◌≡◌, ℕ, ◌<◌, Bool, List, [], map, count_by, get_or, length}
use Rattle.std.specs.Prelude.{slice_index}
use Rattle.base_notes.specs.declared.notes.pattern.Pattern.{Pattern}
use Rattle.base_notes.specs.declared.notes.listing.Listing.{Listing}
use Rattle.base_notes.specs.Allowed.{Listed, Notes}
use Rattle.base_notes.specs.Listed.{listed}
use Rattle.machine_steps.specs.Counts.{no_counts}
use Rattle.machine_steps.specs.CountsIn.{counts_in}
use Rattle.machine_steps.specs.Keeps.{counts_over}
use Rattle.machine_steps.specs.Run.{Stride}
use Rattle.program_replay.specs.declared.coverage.Coverage.{Coverage}
use Rattle.program_replay.specs.Coverage.{is_met, list_line, most_passed}

-- a flag for each pattern of each list
abbrev pub flags_of : (Listed → Pattern → Bool) → List Listed → List (List Bool)
flags_of flag lists = map (λ list. map (flag list) list.patterns) lists

-- the counts of the notes' marks, as a coverage holds them
abbrev pub counts_of : Coverage → Notes → List ℕ
counts_of coverage notes = counts_in coverage.counts notes.marks

-- what it has of the mark and of the list with an index: the highest count, and how many patterns
-- were met
abbrev pub passed_at : Coverage → ℕ → ℕ
passed_at coverage place = slice_index coverage.highest.passes place

abbrev pub met_at : Coverage → ℕ → ℕ
met_at coverage place = count_by (λ met. met) (get_or coverage.met.items place [])

-- It has seen these strides: it has their counts, the highest of each, and a flag for each pattern
-- that says whether it was met.
pub record HasSeen (notes : Notes) (strides : List Stride) (coverage : Coverage) : Type 0 where
  pub counts : counts_of coverage notes ≡ counts_over notes (no_counts notes.marks) strides
  pub highest :
      (place : ℕ) → place < length notes.marks
      → passed_at coverage place ≡ most_passed notes strides place
  pub met :
      coverage.met.items ≡ flags_of (λ list. is_met strides list.location) notes.lists

-- the line of a list with its index in the notes
abbrev pub list_line_at : Coverage → ℕ × Listing → List ℕ
list_line_at coverage noted = list_line (listed noted.1) (met_at coverage noted.0)

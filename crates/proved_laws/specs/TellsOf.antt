-- What a line of a walk in rounds tells of the walk, and when it is so.
use Rattle.std.specs.Prelude.{◌≡◌, ℕ, ◌+◌, ◌*◌, ◌<◌, ◌≤◌, ◌⊎◌, List, Contains}
use Rattle.base_words.specs.declared.op.Op.{Op}
use Rattle.base_notes.specs.declared.entry.Entry.{Entry}
use Rattle.flow_walks.specs.Visited.{Visited}
use Rattle.print_hops.specs.WalkText.{visit_line}
use Rattle.print_ceilings.specs.RoundsText.{again_line, end_line, end_rounds_line, part_line}
use Rattle.print_ceilings.specs.RoundsText.{rounds_line}

-- the walk's begin, or a moment at which one of its hops ends
abbrev pub IsMoment : List Visited → ℕ → Type 0
IsMoment visits moment =
    (moment ≡ 0) ⊎ ((visit : Visited) × Contains visits visit × (moment ≡ visit.ended))

-- What a line tells of a walk from this angle is so: of a hop, that one of the walk's hops begins,
-- has its moments and ends as it says; of a part that comes again, that hops of the walk end then;
-- of rounds, that each takes as long as it says, and that hops of the walk end when each begins and
-- ends.
pub data IsToldOf (times : Op → Entry) (angle : ℕ) (visits : List Visited) (line : List ℕ) : Type 0
  where
    -- The line is that of a hop of the walk.
    a_hop : (visit : Visited) → Contains visits visit → line ≡ visit_line times angle visit
        → IsToldOf times angle visits line
    -- Here a part is told for the first time, or has been: of the walk that says nothing.
    a_part : (number : ℕ) → (line ≡ part_line number) ⊎ (line ≡ end_line number)
        → IsToldOf times angle visits line
    -- A part comes again, from one moment of the walk to another.
    again : (part begun ended : ℕ) → IsMoment visits begun → IsMoment visits ended
        → line ≡ again_line part begun ended → IsToldOf times angle visits line
    -- Here the first of so many rounds is told: of the walk that says nothing.
    rounds_begin : (count from onto : ℕ) → line ≡ rounds_line count from onto
        → IsToldOf times angle visits line
    -- Rounds that began at a moment of the walk end at one, so many times `each` later; each of
    -- them ended at one, `each` after it began.
    rounds_end : (begun count each : ℕ) → 0 < count
        → ((round : ℕ) → round ≤ count → IsMoment visits (begun + round * each))
        → line ≡ end_rounds_line each (begun + count * each) → IsToldOf times angle visits line

-- Of Keys::round: the counts that are read off a number of counts are within what the marks allow.
-- For each mark so far the round has the counts after its pass, or nothing where it is full.
use Rattle.std.proofs.Common.{◌≡◌, ℕ, ◌<◌, List, sym, subst}
use Rattle.std.proofs.Common.{arith}
use Rattle.base_notes.specs.declared.notes.mark.Mark.{Mark}
use Rattle.machine_steps.specs.Counts.{AreWithin}
use Rattle.machine_steps.specs.declared.counts.Counts.{Counts}
use Rattle.machine_steps.specs.CountsIn.{counts_in}
use Rattle.flow_graph.specs.Flow.{notes_of}
use Rattle.bound_scan.specs.declared.keys.Keys.{Keys}
use Rattle.bound_scan.specs.Digits.{digits}
use Rattle.bound_scan.specs.KeysOf.{AreKeys}
use Rattle.bound_scan.proofs.DigitsLaws.{digits_within}
use Rattle.bound_scan.proofs.keys.Keys.round.Goals as goal

-- the counts that were read off the number
counted : (marks : List Mark) (leading : ℕ) (counts : Counts) (all : List Mark) → all ≡ marks
    → counts_in counts all ≡ digits all leading → counts_in counts marks ≡ digits marks leading
counted marks leading counts all same is = subst (λ (ms : List Mark). counts_in counts ms ≡ digits ms leading) same is

within : (keys : Keys) (leading : ℕ) (counts : Counts) → AreKeys keys → leading < keys.counts
    → counts_in counts (notes_of keys.accepted.now.flow).marks ≡ digits (notes_of keys.accepted.now.flow).marks leading
    → AreWithin (notes_of keys.accepted.now.flow).marks (counts_in counts (notes_of keys.accepted.now.flow).marks)
within keys leading counts are below is =
    let marks = (notes_of keys.accepted.now.flow).marks in
    subst (AreWithin marks) (sym is) (digits_within marks leading (omega (arith, below, are.counts)))

pub counted_after-requires-clause-within : goal.counted_after-requires-clause-within
counted_after-requires-clause-within c =
    let keys = c.args.self.now in
    within keys c.args.leading c.counts_at-counts.result c.requires.keys c.requires.below
    (counted (notes_of keys.accepted.now.flow).marks c.args.leading c.counts_at-counts.result c.marks-marks.result.now
    c.marks-marks.ensures.all c.counts_at-counts.ensures)

pub counted-requires-clause-within : goal.counted-requires-clause-within
counted-requires-clause-within c =
    let keys = c.args.self.now in
    within keys c.args.leading c.counts_at-counts.result c.requires.keys c.requires.below
    (counted (notes_of keys.accepted.now.flow).marks c.args.leading c.counts_at-counts.result c.marks-marks.result.now
    c.marks-marks.ensures.all c.counts_at-counts.ensures)

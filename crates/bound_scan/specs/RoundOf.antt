-- Counts as keys and table have them, and the keys that have the same counts.
use Rattle.std.specs.Prelude.{◌≡◌, ℕ, ◌*◌, ◌<◌, List, length, slice_index_or, Option, Some, None}
use Rattle.std.specs.Prelude.{MatchOption}
use Rattle.machine_steps.specs.Counts.{passed_from, AreWithin}
use Rattle.flow_graph.specs.Flow.{notes_of}
use Rattle.flow_graph.specs.Passes.{leading}
use Rattle.flow_acceptance.specs.declared.ordered_flow.OrderedFlow.{OrderedFlow}
use Rattle.flow_acceptance.specs.OrderedFlow.{in_order}
use Rattle.bound_scan.specs.declared.round.Counted.{Counted}
use Rattle.bound_scan.specs.declared.round.Round.{Round}
use Rattle.bound_scan.specs.Digits.{digits}
use Rattle.bound_scan.specs.Table.{number_of}

-- counts with their number among the keys, the key of the first location, and their number in the
-- table
pub record IsCounted (accepted : OrderedFlow) (counts : List ℕ) (counted : Counted) : Type 0 where
  pub round : counted.round ≡ leading (notes_of accepted.flow).marks counts
  pub first : counted.first
      ≡ leading (notes_of accepted.flow).marks counts * length (in_order accepted)
  pub number : counted.number ≡ number_of (notes_of accepted.flow).marks counts

-- what a pass of the mark with this index leads to from some counts: nothing where it is full
abbrev pub IsPassed : OrderedFlow → List ℕ → ℕ → Option Counted → Type 0
IsPassed accepted counts index passed =
    let marks = (notes_of accepted.flow).marks in
    let after = passed_from marks index 0 counts in
    MatchOption passed (¬ AreWithin marks after)
    (λ counted. IsCounted accepted after counted × AreWithin marks after)

-- The keys with the counts of this number, with the first mark's leading.
pub record IsRound (accepted : OrderedFlow) (number : ℕ) (round : Round) : Type 0 where
  pub own : IsCounted accepted (digits (notes_of accepted.flow).marks number) round.own
  pub passed : (k : ℕ) → k < length (notes_of accepted.flow).marks
      → IsPassed accepted (digits (notes_of accepted.flow).marks number) k
      (slice_index_or round.passed k None)

-- the counts after a hop along an edge with this mark, or with none
abbrev pub counted_after : Round → Option ℕ → Option Counted
counted_after round None = Some round.own
counted_after round (Some mark) = slice_index_or round.passed mark None

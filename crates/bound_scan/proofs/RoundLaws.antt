-- What a hop leads to from the counts of a round.
use Rattle.std.proofs.Common.{◌≡◌, ℕ, ◌+◌, ◌*◌, ◌<◌, List, length, Option, Some, None, ap, sym, ◌∙◌, subst, arith}
use Rattle.std.specs.Prelude.{slice_get, slice_index_or, MatchOption}
use Rattle.base_notes.specs.declared.notes.mark.Mark.{Mark}
use Rattle.base_notes.specs.Marks.{mark_on}
use Rattle.machine_steps.specs.Counts.{after_pass, AreWithin}
use Rattle.machine_steps.proofs.Within.{counts_passed}
use Rattle.flow_graph.specs.Flow.{notes_of}
use Rattle.flow_graph.specs.Passes.{found_within}
use Rattle.flow_graph.specs.Accepted.{counts_of}
use Rattle.flow_acceptance.specs.declared.ordered_flow.OrderedFlow.{OrderedFlow}
use Rattle.flow_acceptance.specs.OrderedFlow.{in_order}
use Rattle.bound_scan.specs.declared.round.Counted.{Counted}
use Rattle.bound_scan.specs.declared.round.Round.{Round}
use Rattle.bound_scan.specs.Digits.{digits}
use Rattle.bound_scan.specs.Keys.{IsKey}
use Rattle.bound_scan.specs.RoundOf.{IsCounted, IsRound, counted_after}
use Rattle.bound_scan.proofs.DigitsLaws.{leading_digits, unmarked_stays}
use Rattle.bound_scan.proofs.Nodes.{key_of_place}

pub mark_inside : (marks : List Mark) (from onto found : ℕ) → mark_on marks from onto ≡ Some found
    → found < length marks
mark_inside marks from onto found e = omega (arith, (found_within 0 marks from onto found e).1)

-- what a hop along an edge leads to, from the counts of this number
abbrev pub IsLed : OrderedFlow → ℕ → ℕ → ℕ → Option Counted → Type 0
IsLed accepted number place next counted =
    let marks = (notes_of accepted.flow).marks in
    let after = after_pass marks place next (digits marks number) in
    MatchOption counted (¬ AreWithin marks after) (λ c. IsCounted accepted after c × AreWithin marks after)

pub round_leads : (accepted : OrderedFlow) (number place next : ℕ) (round : Round) (mark : Option ℕ)
    → IsRound accepted number round
    → AreWithin (notes_of accepted.flow).marks (digits (notes_of accepted.flow).marks number)
    → mark_on (notes_of accepted.flow).marks place next ≡ mark
    → IsLed accepted number place next (counted_after round mark)
round_leads accepted number place next round None is within on =
    let marks = (notes_of accepted.flow).marks in
    let stays : digits marks number ≡ after_pass marks place next (digits marks number) =
    sym (unmarked_stays marks place next (digits marks number) on) in (
      subst (λ (counts : List ℕ). IsCounted accepted counts round.own) stays is.own,
      subst (AreWithin marks) stays
          within,
    )
round_leads accepted number place next round (Some m) is within on =
    let marks = (notes_of accepted.flow).marks in
    let counted = slice_index_or round.passed m None in
    subst (λ (after : List ℕ). MatchOption counted (¬ AreWithin marks after)
    (λ c. IsCounted accepted after c × AreWithin marks after))
    (sym (counts_passed marks place next m (digits marks number) (sym on)))
    (is.passed m (mark_inside marks place next m on))

-- the key that it leads to
pub led_key : (accepted : OrderedFlow) (counts : List ℕ) (counted : Counted) (index next : ℕ)
    → IsCounted accepted counts counted
    → AreWithin (notes_of accepted.flow).marks counts → slice_get (in_order accepted) index ≡ Some next
    → IsKey (notes_of accepted.flow).marks (in_order accepted) (counted.first + index) next counts
led_key accepted counts counted index next is within at =
    subst (λ (first : ℕ). IsKey (notes_of accepted.flow).marks (in_order accepted) (first + index) next counts)
    (sym is.first)
    (key_of_place (notes_of accepted.flow).marks (in_order accepted) counts index next within at)

-- the first key of a round
pub round_first : (accepted : OrderedFlow) (number : ℕ) (round : Round) → IsRound accepted number round
    → number < counts_of (notes_of accepted.flow).marks → round.own.first ≡ number * length (in_order accepted)
round_first accepted number round is small =
    is.own.first ∙ ap (λ (n : ℕ). n * length (in_order accepted))
    (leading_digits (notes_of accepted.flow).marks number small)

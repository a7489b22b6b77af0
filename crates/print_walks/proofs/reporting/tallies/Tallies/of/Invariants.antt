use Rattle.std.proofs.Common.{◌≡◌, ℕ, ◌≤◌, length, map, take}
use Rattle.std.specs.Prelude.{slice_index}
use Rattle.flow_walks.specs.Visited.{seen_visit}
use Rattle.print_walks.specs.Report.{is_of_none, visits_at}
use Rattle.print_walks.specs.TalliesOf.{AreByLine, ArePasses, tally_of}
use Rattle.print_walks.proofs.reporting.tallies.Tallies.of.Given as goal

-- the tallies of the hops so far
abbrev pub invariant-loop-visit : goal.invariant-loop-visit
invariant-loop-visit l = record {
  by_line : AreByLine l.deck (map seen_visit (take l.visit-index l.walk)) l.cards;
  elsewhere : l.other ≡ tally_of (visits_at (is_of_none l.deck) (map seen_visit (take l.visit-index l.walk)));
  passes : ArePasses l.marks (map seen_visit (take l.visit-index l.walk)) l.passed;
  few : (k : ℕ) → slice_index l.passed k ≤ l.visit-index;
  places : length l.cards ≡ 4001;
}

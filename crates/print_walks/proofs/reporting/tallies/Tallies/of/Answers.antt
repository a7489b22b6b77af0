-- Of Tallies::of: each tally has the visits and the time of the hops so far that are of its card,
-- or of none. The walk is short, so no sum overflows.
use Rattle.std.proofs.Common.{ℕ, ◌+◌, ◌≤◌, length, map, take, ap, sym, ◌∙◌, subst, arith}
use Rattle.std.proofs.Math.ListN.{length-set}
use Rattle.std.proofs.lemmas.Option.{get_or_from_slice_get}
use Rattle.std.specs.Prelude.{slice_index}
use Rattle.flow_walks.specs.Visited.{seen_visit}
use Rattle.print_walks.specs.declared.reporting.tally.Tally.{Tally}
use Rattle.print_walks.specs.Report.{is_of_card, is_of_none}
use Rattle.print_walks.specs.TalliesOf.{AreByLine}
use Rattle.print_walks.proofs.Tallying.{visits_fit, times_fit, by_line_some, by_line_none, other_some, other_none}
use Rattle.print_walks.proofs.Tallying.{passes_more}
use Rattle.print_walks.proofs.reporting.tallies.Tallies.of.Goals as goal
use Rattle.print_walks.proofs.reporting.tallies.Tallies.of.Goals.{in-Some, in-None}

-- what stands past the last tally
abbrev past : Tally
past = record { visits = 0; time = 0 }

pub with-requires-clause-few : goal.with-requires-clause-few
with-requires-clause-few c =
    let line = c.in-Some.line in
    let i = c.loop-visit.visit-index in
    let old =
    get_or_from_slice_get c.loop-visit.cards line _ past
    (c.loop-visit.invariant.by_line line c.in-Some.ensures.numbered.1) in
    omega (
      arith,
      ap (λ (t : Tally). t.visits) old,
      visits_fit (is_of_card c.args.deck.now line) c.args.walk.now i
          (omega (arith, c.loop-visit-test.true)) c.requires.few,
    )

pub with-requires-clause-short : goal.with-requires-clause-short
with-requires-clause-short c =
    let line = c.in-Some.line in
    let i = c.loop-visit.visit-index in
    let old =
    get_or_from_slice_get c.loop-visit.cards line _ past
    (c.loop-visit.invariant.by_line line c.in-Some.ensures.numbered.1) in
    omega (
      arith,
      ap (λ (t : Tally). t.time) old,
      times_fit (is_of_card c.args.deck.now line) c.args.walk.now i
          c.visit-item.result c.loop-visit-test.true c.visit-item.is c.requires.short,
    )

pub with-other-requires-clause-few : goal.with-other-requires-clause-few
with-other-requires-clause-few c =
    let i = c.loop-visit.visit-index in
    omega (
      arith,
      ap (λ (t : Tally). t.visits) c.loop-visit.invariant.elsewhere,
      visits_fit (is_of_none c.args.deck.now)
          c.args.walk.now i (omega (arith, c.loop-visit-test.true)) c.requires.few,
    )

pub with-other-requires-clause-short : goal.with-other-requires-clause-short
with-other-requires-clause-short c =
    let i = c.loop-visit.visit-index in
    omega (
      arith,
      ap (λ (t : Tally). t.time) c.loop-visit.invariant.elsewhere,
      times_fit (is_of_none c.args.deck.now)
          c.args.walk.now i c.visit-item.result c.loop-visit-test.true c.visit-item.is c.requires.short,
    )

pub loop-visit-preserved : goal.loop-visit-preserved
loop-visit-preserved c =
    let deck = c.args.deck.now in
    let walk = c.args.walk.now in
    let i = c.loop-visit.visit-index in
    let visit = c.visit-item.result in
    let before = c.loop-visit.invariant in
    let passes =
    passes_more c.args.marks.now walk i visit c.loop-visit.passed c.count_passes.new.passed c.loop-visit-test.true
    c.visit-item.is c.count_passes.ensures.counted before.passes in
    let few : (k : ℕ) → slice_index c.count_passes.new.passed k ≤ i + 1 =
    λ k. omega (arith, c.count_passes.ensures.once k, before.few k) in
    elim c.match-card_of.branch [
      | in-Some w ↦
          let line = w.in-Some.line in
          let held = sym w.in-Some.ensures.held in
          record {
            by_line = subst (AreByLine deck (map seen_visit (take (i + 1) walk))) (sym w.cards-is)
                (by_line_some deck walk i visit c.loop-visit.cards line w.with.result past c.loop-visit-test.true
                c.visit-item.is held w.in-Some.ensures.numbered.1 before.places
                w.with.ensures.visits w.with.ensures.time before.by_line);
            elsewhere =
                w.other-is ∙ other_some deck walk i visit c.loop-visit.other line c.loop-visit-test.true c.visit-item.is
                held before.elsewhere;
            passes = passes;
            few = few;
            places = ap length w.cards-is ∙ length-set c.loop-visit.cards line w.with.result ∙ before.places;
          }
      | in-None w ↦
          let held = sym w.in-None.ensures.held in
          record {
            by_line = subst (AreByLine deck (map seen_visit (take (i + 1) walk))) (sym w.cards-is)
                (by_line_none deck walk i visit c.loop-visit.cards c.loop-visit-test.true c.visit-item.is held
                before.by_line);
            elsewhere =
                w.other-is ∙ other_none deck walk i visit c.loop-visit.other w.with-other.result c.loop-visit-test.true
                c.visit-item.is held
                w.with-other.ensures.visits w.with-other.ensures.time before.elsewhere;
            passes = passes;
            few = few;
            places = ap length w.cards-is ∙ before.places;
          }
    ]

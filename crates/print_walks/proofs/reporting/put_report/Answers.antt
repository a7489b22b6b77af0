-- Of put_report: the tallies are those of the walk, so the lines put from them are those of the
-- definition: cards, other locations, marks and bound, one behind the other.
use Rattle.std.proofs.Common.{◌<◌, ◌≤◌, ◌^◌, List, flat_map, length, ap, sym, ◌∙◌, subst, arith}
use Rattle.std.proofs.lemmas.List.{length-map}
use Rattle.base_notes.specs.declared.notes.mark.Mark.{Mark}
use Rattle.flow_walks.specs.Visited.{Visited, seen_visit}
use Rattle.bound_scan.specs.AnalysisOf.{bound_of, visits_of}
use Rattle.print_lines.specs.BoundText.{bound_text}
use Rattle.print_lines.proofs.Passing.{◌⊳◌, passes_as}
use Rattle.print_walks.specs.Report.{mark_line, time_in}
use Rattle.print_walks.specs.TalliesOf.{AreTallies, told_of_others}
use Rattle.print_walks.proofs.Short.{report_short}
use Rattle.print_walks.proofs.Spending.{ends, spends}
use Rattle.print_walks.proofs.reporting.put_report.Goals as goal

pub of-tallies-requires-clause-short : goal.of-tallies-requires-clause-short
of-tallies-requires-clause-short g c =
    let analysis = c.args.analysis.now in
    omega (
      arith,
      ap time_in c.walk.ensures.told,
      spends (visits_of analysis) (bound_of analysis) c.walk.ensures.in_time,
      c.bound-bound.ensures.told,
      c.bound-bound.ensures.below,
    )

pub returns-clause-text : goal.returns-clause-text
returns-clause-text g c =
    let analysis = c.args.analysis.now in
    let walk = visits_of analysis in
    let told : AreTallies c.args.deck.now c.marks-marks.result.now walk c.of-tallies.result =
    subst (λ (visits : List Visited). AreTallies c.args.deck.now c.marks-marks.result.now visits c.of-tallies.result)
    c.walk.ensures.told c.of-tallies.ensures in
    c.put_cards.ensures walk told.by_line ⊳ passes_as (ap told_of_others told.elsewhere) c.put_other.ensures
    ⊳ passes_as (ap (λ (marks : List Mark). flat_map (mark_line walk) marks) c.marks-marks.ensures.all)
    (c.put_marks.ensures.lines walk told.passes)
    ⊳ passes_as
    (ap bound_text (c.bound-bound.ensures.told ∙ sym (ends walk (bound_of analysis) c.walk.ensures.in_time)))
    c.put_bound.ensures

pub returns-clause-short : goal.returns-clause-short
returns-clause-short g c =
    let analysis = c.args.analysis.now in
    let walk = visits_of analysis in
    let told : AreTallies c.args.deck.now c.marks-marks.result.now walk c.of-tallies.result =
    subst (λ (visits : List Visited). AreTallies c.args.deck.now c.marks-marks.result.now visits c.of-tallies.result)
    c.walk.ensures.told c.of-tallies.ensures in
    let bound : bound_of analysis < 2 ^ 50 = omega (arith, c.bound-bound.ensures.told, c.bound-bound.ensures.below) in
    report_short c.args.deck.now c.args.notes.now walk
    (omega (
      arith,
      length-map c.walk.result.now seen_visit,
      ap (λ (xs : List Visited). length xs) c.walk.ensures.told,
      c.walk.ensures.few,
    ))
    (omega (arith, spends walk (bound_of analysis) c.walk.ensures.in_time, bound))
    (omega (arith, ends walk (bound_of analysis) c.walk.ensures.in_time, bound))
    (subst (λ (marks : List Mark). length (flat_map (mark_line walk) marks) ≤ 7680) c.marks-marks.ensures.all
    (c.put_marks.ensures.short walk told.passes))

-- Of put_marks: the line of each mark says how often the walk passes it.
use Rattle.std.proofs.Common.{◌≡◌, ℕ, ◌<◌, List, flat_map, length, get_or, take, Some, ap, sym, ◌∙◌, arith}
use Rattle.std.proofs.Common.{length-append}
use Rattle.std.proofs.lemmas.Option.{slice_get-get_or}
use Rattle.std.specs.Prelude.{slice_index}
use Rattle.base_devices.proofs.Bytes.{pieces_more}
use Rattle.base_notes.specs.declared.notes.mark.Mark.{Mark}
use Rattle.flow_walks.specs.Visited.{Visited}
use Rattle.print_lines.proofs.Passing.{passes_as, passes_more}
use Rattle.print_walks.specs.Report.{mark_line}
use Rattle.print_walks.specs.TalliesOf.{ArePasses, told_of_mark}
use Rattle.print_walks.proofs.reporting.lines.put_marks.Goals as goal

-- the line of a mark is what its number says
line_told : (marks : List Mark) (walk : List Visited) (passed : List ℕ) (place : ℕ) (mark : Mark)
    → ArePasses marks walk passed → place < length marks → mark ≡ get_or marks place mark
    → told_of_mark mark (slice_index passed place) ≡ mark_line walk mark
line_told marks walk passed place mark passes within is =
    ap (told_of_mark mark) (passes place mark (slice_get-get_or marks place mark within ∙ ap Some (sym is)))

pub loop-place-preserved : goal.loop-place-preserved
loop-place-preserved g c =
    let marks = c.args.marks.now in
    let place = c.loop-place.place in
    let mark = c.index-marks-place.result in
    let within = c.loop-place-test.true in
    let is = c.index-marks-place.is in
    record {
      so_far = λ walk passes.
          passes_more (mark_line walk) marks place mark within is (c.loop-place.invariant.so_far walk passes)
          (passes_as (line_told marks walk c.args.passed.now place mark passes within is) c.put_mark.ensures.line);
      short = λ walk passes.
          omega (
            arith,
            c.loop-place.invariant.short walk passes,
            ap length (pieces_more (mark_line walk) marks place mark within),
            length-append (flat_map (mark_line walk) (take place marks)) (mark_line walk (get_or marks place mark)),
            ap (λ (m : Mark). length (mark_line walk m)) is,
            ap length (line_told marks walk c.args.passed.now place mark passes within is),
            c.put_mark.ensures.short,
          );
    }

-- Of tell_trace: the lines of the strides are put first and what they came to with the verdict behind
-- them, so together they are the reply of a trace. Where a write fails, the lines of the strides so
-- far have gone out in part, and the status says so.
use Rattle.std.proofs.Common.{ℕ, List, [], ◌++◌, append_assoc, inl, inr, refl, subst, sym}
use Rattle.print_lines.specs.declared.status.Status.{Status}
use Rattle.print_lines.specs.Output.{GetsResult}
use Rattle.print_lines.specs.VerdictText.{verdict_text}
use Rattle.print_hops.specs.TraceText.{stride_lines}
use Rattle.program_replay.specs.Coverage.{coverage_lines}
use Rattle.print_lines.proofs.Passing.{◌⊳◌, passes_as, prefix_of_lost}
use Rattle.read_documents.specs.Documents.{setting_of}
use Rattle.program_replay.specs.RunReply.{cut_reply, trace_reply}
use Rattle.program_replay.proofs.tracing.tell_trace.Goals as goal

pub returns-in-Some : goal.returns-in-Some
returns-in-Some g c given is =
    let all = setting_of c.args.documents.now in
    let verdict = c.in-Some.verdict in
    let passes = c.in-Some.ensures.passes given is.begun_of in
    let strides = passes.0 in
    let by = c.args.trace.begun.limit in
    let steps : List ℕ = stride_lines all.times 1 strides in
    let told : List ℕ = coverage_lines all.notes strides verdict in
    let end : List ℕ = verdict_text by verdict in
    let put = passes_as (sym (append_assoc steps told end)) (passes.2 ⊳ c.put_end.ensures strides passes.3) in (
      trace_reply all by strides verdict,
      (is.own_words, (by, c.args.trace.begun.most, is.limited, inl (strides, verdict, passes.1, refl))),
      (λ err. (
        subst (λ (done : Status). GetsResult (g.O.Output.device c.args.out.now) (g.O.Output.device c.end_result.new.out)
            (steps ++ told ++ end) done c.end_result.result) c.after.ensures
            (c.end_result.ensures _ _ (put.stands _ [] (c.new-sheet.ensures _))),
        refl,
      )),
    )

pub returns : goal.returns
returns g c given is =
    let all = setting_of c.args.documents.now in
    let passes = c.in-None.ensures.passes given is.begun_of in (
      cut_reply all passes.0,
      (is.own_words, (c.args.trace.begun.limit, c.args.trace.begun.most, is.limited, inr (passes.0, passes.1, refl))),
      (λ err. (
        prefix_of_lost (g.O.Output.device c.args.out.now) (g.O.Output.device c.put_trace.new.out) c.put_trace.new.sheet _
            (c.in-None.ensures.lost refl) (passes.2.stands _ [] (c.new-sheet.ensures _)),
        refl,
        refl,
      )),
    )

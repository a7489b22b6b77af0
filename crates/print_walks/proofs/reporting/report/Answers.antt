-- Of report: what is told of a write that failed is how many bytes of the text had gone out.
use Rattle.std.proofs.Common.{[]}
use Rattle.std.proofs.lemmas.Result.{err_from_is_err_and}
use Rattle.print_walks.proofs.reporting.report.Goals as goal

pub returns-in_err-finish-clause-written : goal.returns-in_err-finish-clause-written
returns-in_err-finish-clause-written g c =
    let p = err_from_is_err_and c.from_residual.result c.from_residual.ensures.1 in
    rw (p.1, p.2) (c.in_err-finish.ensures.sent _ _ (c.put_report.ensures.text.stands _ [] (c.new-sheet.ensures _))
    c.put_report.ensures.short)

pub returns-in_err-finish-clause-failures : goal.returns-in_err-finish-clause-failures
returns-in_err-finish-clause-failures g c =
    let p = err_from_is_err_and c.from_residual.result c.from_residual.ensures.1 in
    rw p.1 (c.in_err-finish.ensures.gets _ _ (c.put_report.ensures.text.stands _ [] (c.new-sheet.ensures _))).3

pub returns-clause-written : goal.returns-clause-written
returns-clause-written g c =
    (c.in_ok-finish.ensures.gets _ _ (c.put_report.ensures.text.stands _ [] (c.new-sheet.ensures _))).0

pub returns-clause-failures : goal.returns-clause-failures
returns-clause-failures g c =
    (c.in_ok-finish.ensures.gets _ _ (c.put_report.ensures.text.stands _ [] (c.new-sheet.ensures _))).1

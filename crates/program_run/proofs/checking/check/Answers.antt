use Rattle.std.proofs.Common.{inr, arith}
use Rattle.std.proofs.lemmas.Grind.{common_steps}
use Rattle.std.proofs.lemmas.Result.{err_from_is_err_and}
use Rattle.program_run.proofs.checking.check.Goals as goal

pub returns-in_err-findings-clause-refused : goal.returns-in_err-findings-clause-refused
returns-in_err-findings-clause-refused c =
    let p = err_from_is_err_and c.from_residual-in_err-findings.result c.from_residual-in_err-findings.ensures.1 in
    rw (p.1, p.2) (inr (
      c.in_ok-documents.documents,
      c.in_ok-documents.ensures.said,
      c.in_err-findings.ensures.refused,
    ))

pub returns-clause-checked : goal.returns-clause-checked
returns-clause-checked c = (
  c.in_ok-documents.documents,
  c.in_ok-documents.ensures.said,
  c.in_ok-findings.ensures.findings,
  c.in_ok-findings.ensures.long,
)

pub sound_documents-requires : goal.sound_documents-requires
sound_documents-requires c = grind (arith, common_steps)

use Rattle.std.proofs.Common.{◌^◌, arith}
use Rattle.std.proofs.lemmas.Result.{err_from_is_err_and}
use Rattle.program_limits.proofs.Limiting.{no_ceiling, too_dear}
use Rattle.program_limits.proofs.limits.past_bound.Goals as goal

pub returns-in_err-ceiling_of-clause-fault : goal.returns-in_err-ceiling_of-clause-fault
returns-in_err-ceiling_of-clause-fault c =
    let p = err_from_is_err_and c.from_residual.result c.from_residual.ensures.1 in
    rw (p.1, p.2) (no_ceiling c.args.documents.now c.in_err-ceiling_of.field-0.0 c.requires.none
    c.in_err-ceiling_of.ensures.fault)

pub returns-clause-fault : goal.returns-clause-fault
returns-clause-fault c = (
  c.requires.none,
  c.in_ok-product.ensures.product,
  too_dear c.args.documents.now c.in_ok-ceiling_of.field-0 (2 ^ 50) c.in_ok-ceiling_of.ensures.ceiling
      (omega (arith, c.total-total.ensures, c.if-total-lt-LONGEST.false)),
)

use Rattle.std.proofs.Common.{◌∙◌}
use Rattle.check_findings.proofs.Lacks.{other_more}
use Rattle.check_findings.proofs.lacking.Lacking.add.Goals as goal

pub returns-in_default : goal.returns-in_default
returns-in_default c = record {
  same = c.requires.same;
  added = λ before are. are ∙ other_more before c.args.finding.now c.in_default.not-Alters;
}

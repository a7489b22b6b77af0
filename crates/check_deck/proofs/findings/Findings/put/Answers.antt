use Rattle.std.proofs.Common.{ap}
use Rattle.print_lines.proofs.Passing.{passes_as}
use Rattle.check_findings.specs.Lacking.{check_text}
use Rattle.check_deck.proofs.findings.Findings.put.Goals as goal

pub returns : goal.returns
returns g c = passes_as (ap (check_text c.args.self.now.long) c.as_slice.ensures) c.put_all.ensures

use Rattle.std.proofs.Common.{sym, ◌∙◌}
use Rattle.bound_scan.proofs.InCellsLaws.{kept_is}
use Rattle.bound_scan.proofs.cells.Cells.kept_at.Goals as goal

pub returns : goal.returns
returns c = c.kept_at.ensures ∙ sym (kept_is c.args.self.now c.args.key c.requires.there)

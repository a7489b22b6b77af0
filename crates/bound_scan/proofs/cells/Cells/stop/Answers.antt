use Rattle.std.proofs.Common.{◌≡◌, ap, ◌∙◌}
use Rattle.bound_scan.specs.declared.latest.Latest.{Latest}
use Rattle.bound_scan.specs.InCells.{size_of}
use Rattle.bound_scan.specs.InEntries.{keys_in}
use Rattle.bound_scan.specs.Scanned.{later}
use Rattle.bound_scan.proofs.InCellsLaws.{one_equation}
use Rattle.bound_scan.proofs.cells.Cells.stop.Goals as goal

pub returns : goal.returns
returns c =
    ap (λ (keys : keys_in c.args.self.now.entries ≡ size_of c.args.self.now). record c.args.self.now {
      last = c.raise.new.self;
      keys = keys;
    }) (one_equation _ c.args.self.now.keys)
    ∙ ap (λ (last : Latest). record c.args.self.now { last = last })
    (c.raise.ensures ∙ ap (later c.args.self.now.last) c.spend.ensures)

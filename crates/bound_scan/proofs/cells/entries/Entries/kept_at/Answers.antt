use Rattle.std.proofs.Common.{refl, sym}
use Rattle.bound_scan.specs.InEntries.{pairs_of}
use Rattle.bound_scan.proofs.Entering.{kept_none}
use Rattle.bound_scan.proofs.cells.entries.Entries.kept_at.Goals as goal

pub returns-in_default : goal.returns-in_default
returns-in_default c =
    let entries = c.args.self.now in
    sym (kept_none entries.angle c.args.key (pairs_of entries) entries.origins.items (c.in_default.ensures.none refl))

use Rattle.std.proofs.Common.{refl, ap}
use Rattle.std.specs.Prelude.{option_map}
use Rattle.bound_scan.specs.declared.latest.Latest.{Latest}
use Rattle.bound_scan.specs.InEntries.{pairs_of}
use Rattle.bound_scan.proofs.Entering.{kept_none}
use Rattle.bound_scan.proofs.cells.entries.Entries.clock_at.Goals as goal

pub returns-in_default : goal.returns-in_default
returns-in_default c =
    let entries = c.args.self.now in
    ap (option_map (λ (kept : Latest). kept.clock))
    (kept_none entries.angle c.args.key (pairs_of entries) entries.origins.items (c.in_default.ensures.none refl))

use Rattle.bound_scan.specs.ScanOf.{order_of, setting_in}
use Rattle.bound_scan.proofs.Analyses.{last_after}
use Rattle.bound_scan.proofs.scan.Scan.into_found.Goals as goal

pub of-requires : goal.of-requires
of-requires g c =
    let scan = c.args.self in
    last_after (setting_in scan) (order_of scan) scan.cells c.requires.cells c.requires.scanned

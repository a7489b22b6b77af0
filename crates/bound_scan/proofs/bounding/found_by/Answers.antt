use Rattle.std.proofs.Common.{length, subst}
use Rattle.base_notes.specs.declared.times.Times.{Times}
use Rattle.bound_scan.specs.declared.keys.Keys.{Keys}
use Rattle.bound_scan.specs.Counted.{HasFound}
use Rattle.bound_scan.specs.KeysOf.{order_in, setting_with}
use Rattle.bound_scan.specs.ScanOf.{order_of, setting_in}
use Rattle.bound_scan.proofs.Analyses.{found_in}
use Rattle.bound_scan.proofs.Finished.{is_ordered, starts_on_drum}
use Rattle.bound_scan.proofs.bounding.found_by.Goals as goal

pub returns : goal.returns
returns v c =
    let scan = c.in_ok-scan.scan in
    let found = c.into_found.result in
    let done = c.in_ok-scan.ensures.done in
    subst (λ (one : Keys). HasFound (setting_with one c.args.times.now) (length (order_in one)) found)
    c.in_ok-scan.ensures.keys
    (subst (λ (one : Times). HasFound (setting_with scan.keys.now one) (length (order_in scan.keys.now)) found)
    c.in_ok-scan.ensures.times
    (found_in (setting_in scan) (order_of scan) scan.cells scan.steps found c.into_found.ensures.cells
    c.into_found.ensures.steps (is_ordered scan done) (starts_on_drum scan) done.cells done.scanned done.turns))

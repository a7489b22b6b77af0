use Rattle.check_findings.proofs.listing.put_finding.Goals as goal

pub returns-in-UnusedMark : goal.returns-in-UnusedMark
returns-in-UnusedMark g c = rw c.in-UnusedMark.is c.put_locations-in-UnusedMark.ensures

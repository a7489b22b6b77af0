use Rattle.check_findings.proofs.marking.put_within.Goals as goal

pub returns-in-SeveralWays : goal.returns-in-SeveralWays
returns-in-SeveralWays g c = rw c.in-SeveralWays.is c.put-in-SeveralWays.ensures

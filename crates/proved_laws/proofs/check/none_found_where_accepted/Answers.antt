use Rattle.proved_laws.proofs.Accepting.{accepted_silent, admitted_silent}
use Rattle.proved_laws.proofs.Silent.{silent_accepted, silent_admitted}
use Rattle.proved_laws.proofs.check.none_found_where_accepted.Goals as goal

pub returns-clause-accepted : goal.returns-clause-accepted
returns-clause-accepted c loads notes start executed nodes findings short found reached a alone =
    silent_accepted loads notes start executed nodes findings found reached a alone short

pub returns-clause-none : goal.returns-clause-none
returns-clause-none c loads notes start executed nodes findings reached accepted a =
    accepted_silent loads notes start executed nodes findings a reached accepted

pub returns-clause-admitted : goal.returns-clause-admitted
returns-clause-admitted c loads notes start executed nodes findings found reached a alone =
    silent_admitted loads notes start executed nodes findings found reached a alone

pub returns-clause-none_of_long : goal.returns-clause-none_of_long
returns-clause-none_of_long c loads notes start executed nodes findings long reached admitted a =
    admitted_silent loads notes start executed nodes findings a reached long admitted

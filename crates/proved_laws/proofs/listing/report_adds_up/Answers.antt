use Rattle.bound_scan.specs.AnalysisOf.{bound_of, visits_of}
use Rattle.print_walks.proofs.Spending.{ends, times_add_up}
use Rattle.proved_laws.proofs.listing.report_adds_up.Goals as goal

pub returns-clause-times : goal.returns-clause-times
returns-clause-times c = λ analysis deck. times_add_up deck (visits_of analysis) (bound_of analysis) analysis.in_time

pub returns-clause-bound : goal.returns-clause-bound
returns-clause-bound c = λ analysis. ends (visits_of analysis) (bound_of analysis) analysis.in_time

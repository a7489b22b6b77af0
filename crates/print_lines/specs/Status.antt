-- The exit codes, and the status after a verdict.
use Rattle.std.specs.Prelude.{ℕ}
use Rattle.print_lines.specs.declared.status.Status.{Status}
use Rattle.print_lines.specs.declared.status.Status.TheVariants.{Done, Refused, Usage, Failed, Left}
use Rattle.machine_steps.specs.declared.verdict.Verdict.{Verdict}
use Rattle.machine_steps.specs.declared.verdict.Verdict.TheVariants as verdicts

abbrev pub code_of : Status → ℕ
code_of Done = 0
code_of Refused = 1
code_of Usage = 2
code_of Failed = 3
code_of Left = 4

-- a replay that leaves the notes has a status of its own
abbrev pub status_of : Verdict → Status
status_of (verdicts.Kept used bound why) = Done
status_of (verdicts.Left what step used) = Left

-- Of try_command: each command does what its function does.
use Rattle.program_run.proofs.commands.try_command.Goals as goal

pub returns-in-Answer-clause-does : goal.returns-in-Answer-clause-does
returns-in-Answer-clause-does g c = rw c.in-Answer.is (c.answer_of_files.ensures.does _)

pub returns-in-Check-clause-does : goal.returns-in-Check-clause-does
returns-in-Check-clause-does g c = rw c.in-Check.is c.check_files.ensures.does

pub returns-in-Replay-clause-does : goal.returns-in-Replay-clause-does
returns-in-Replay-clause-does g c = rw c.in-Replay.is (c.replay_files.ensures.does _)

pub returns-in-Trace-clause-does : goal.returns-in-Trace-clause-does
returns-in-Trace-clause-does g c = rw c.in-Trace.is (c.trace_files.ensures.does _)

pub returns-in-DrawRun-clause-does : goal.returns-in-DrawRun-clause-does
returns-in-DrawRun-clause-does g c = rw c.in-DrawRun.is (c.draw_files.ensures.does _)

pub returns-in-Answer-clause-asked : goal.returns-in-Answer-clause-asked
returns-in-Answer-clause-asked g c = rw c.in-Answer.is c.answer_of_files.ensures.asked

pub returns-in-Check-clause-asked : goal.returns-in-Check-clause-asked
returns-in-Check-clause-asked g c = rw c.in-Check.is c.check_files.ensures.asked

pub returns-in-Replay-clause-asked : goal.returns-in-Replay-clause-asked
returns-in-Replay-clause-asked g c = rw c.in-Replay.is c.replay_files.ensures.asked

pub returns-in-Trace-clause-asked : goal.returns-in-Trace-clause-asked
returns-in-Trace-clause-asked g c = rw c.in-Trace.is c.trace_files.ensures.asked

pub returns-in-DrawRun-clause-asked : goal.returns-in-DrawRun-clause-asked
returns-in-DrawRun-clause-asked g c = rw c.in-DrawRun.is c.draw_files.ensures.asked

-- Of run_command: the reply is the one that has gone out, or the line of the fault, before which nothing
-- has.
use Rattle.std.proofs.Common.{inr, refl}
use Rattle.print_lines.specs.FaultStatus.{reads_failed}
use Rattle.read_documents.specs.Asked.{files_sought}
use Rattle.print_lines.specs.Reply.{fault_reply}
use Rattle.program_run.proofs.Looking.{told_fault, told_well}
use Rattle.program_run.proofs.Replies.{Replied, counted, fault_of_reads}
use Rattle.program_run.proofs.commands.run_command.Goals as goal

pub returns-in-Ok-clause-told : goal.returns-in-Ok-clause-told
returns-in-Ok-clause-told g c =
    let done = c.in-Ok.ensures.does in (
      done.0,
      done.3,
      (λ failures count.
          counted (Replied (g.S.Source.files c.args.source.now) c.args.command done.0) _ _ failures 0
          c.in-Ok.ensures.counted count (inr (refl, done.2), done.1)),
      told_well (files_sought c.args.command) (g.S.Source.asked c.args.source.now)
          (g.S.Source.asked c.try_command.new.source) done.0 done.2 c.in-Ok.ensures.asked,
    )

pub returns-in-Err-clause-told : goal.returns-in-Err-clause-told
returns-in-Err-clause-told g c =
    let fault = c.in-Err.fault in
    let spared = c.in-Err.ensures.spared in (
      fault_reply fault,
      (rw spared.0 refl, rw spared.1 at c.complain.ensures.line, c.complain.ensures.status),
      (λ failures count.
          counted (Replied (g.S.Source.files c.args.source.now) c.args.command (fault_reply fault)) _ _ failures
          (reads_failed fault) c.in-Err.ensures.counted count (fault_of_reads fault, c.in-Err.ensures.does)),
      told_fault (files_sought c.args.command) (g.S.Source.asked c.args.source.now)
          (g.S.Source.asked c.try_command.new.source) fault c.in-Err.ensures.asked,
    )

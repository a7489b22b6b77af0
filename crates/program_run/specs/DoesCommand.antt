-- What is done for a command.
use Rattle.std.specs.Prelude.{◌≡◌, ℕ, None, Result}
use Rattle.program_command.specs.declared.command.Command.{Command}
use Rattle.print_lines.specs.declared.fault.Fault.{Fault}
use Rattle.print_lines.specs.declared.status.Status.{Status}
use Rattle.print_lines.specs.FaultStatus.{reads_failed}
use Rattle.read_documents.specs.Asked.{files_sought, part_of}
use Rattle.read_documents.specs.Files.{AreTold, FilesTold, Contents}
use Rattle.print_lines.specs.Does.{Does}
use Rattle.base_devices.specs.Device.{Device}
use Rattle.print_lines.specs.Reply.{Reply, fault_reply}
use Rattle.program_run.specs.Commands.{AnswersCommand}

-- the reply to a command, by what its files hold, as far as that is known
abbrev pub RepliesTo : Command → FilesTold → ℕ → Reply → Type 0
RepliesTo command files failures reply =
    (held : Contents) → AreTold files held (files_sought command)
    → AnswersCommand held command failures reply

-- what is done for a command
abbrev pub DoesCommand : Command → FilesTold → Device → Device → Device → Device
    → Result Status Fault → Type 0
DoesCommand command files =
    Does (RepliesTo command files 0)
    (λ fault. RepliesTo command files (reads_failed fault) (fault_reply fault))

-- the fault is of no file, and says of no read that it failed
pub record IsOfNoFile (fault : Fault) : Type 0 where
  pub part : part_of fault ≡ None
  pub reads : reads_failed fault ≡ 0

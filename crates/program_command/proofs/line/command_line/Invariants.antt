use Rattle.std.proofs.Common.{◌≡◌, map, take}
use Rattle.clap.specs.Words.{app_of}
use Rattle.program_command.specs.Entry.{verb_of}
use Rattle.program_command.specs.Line.{program, verb_shape}
use Rattle.program_command.proofs.line.command_line.Given as goal

-- the subcommands so far are those of the first entries
abbrev pub invariant-loop-entry : goal.invariant-loop-entry
invariant-loop-entry l =
    app_of l.line ≡ program (map verb_shape (map verb_of (take l.entry-index l.entry-items)))

use Rattle.std.proofs.Common.{◌≡◌, false, map, take, []}
use Rattle.clap.specs.Words.{app_of}
use Rattle.clap.specs.declared.builder.command.Command.TheViews.{out-Command}
use Rattle.clap.specs.Simple.{new_shape}
use Rattle.program_command.specs.Entry.{file_of}
use Rattle.program_command.specs.Line.{file_rule}
use Rattle.program_command.proofs.line.subcommand.Given as goal

-- the arguments so far are those of the first files
abbrev pub invariant-loop-file : goal.invariant-loop-file
invariant-loop-file l =
    let so_far = map (λ file. file_rule (file_of file)) (take l.file-index l.entry.files.now) in
    ((out-Command l.command).has_globals ≡ false)
    × (app_of l.command
    ≡ record { top = record (new_shape l.entry.name.now) { rules = so_far }; subs = [] })

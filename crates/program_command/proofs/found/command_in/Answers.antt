use Rattle.std.proofs.Common.{◌∙◌, ap, sym, false, List, Option, Some}
use Rattle.std.specs.Prelude.{option_map}
use Rattle.std.specs.Option.{option_map_or}
use Rattle.clap.specs.Words.{Row, Text, found_of, rows_of}
use Rattle.clap.specs.declared.parser.matches.ArgMatches.TheViews.{out-ArgMatches}
use Rattle.program_command.specs.Line.{is_whole, said_in}
use Rattle.program_command.proofs.Subcommand.{subcommand_rows-is}
use Rattle.program_command.proofs.found.command_in.Goals as goal

pub command_of-requires : goal.command_of-requires
command_of-requires c =
    let is =
    subcommand_rows-is (out-ArgMatches c.args.matches.now).subcommand c.in-Some.name.now
    (rows_of (found_of c.in-Some.found.now))
    c.in-Some.ensures.name c.in-Some.ensures.rows in
    sym (ap (λ (o : Option (Text × List Row)). option_map_or is_whole o false) is) ∙ c.requires

pub returns : goal.returns
returns c =
    let is =
    subcommand_rows-is (out-ArgMatches c.args.matches.now).subcommand c.in-Some.name.now
    (rows_of (found_of c.in-Some.found.now))
    c.in-Some.ensures.name c.in-Some.ensures.rows in
    ap (option_map said_in) is ∙ ap Some c.command_of.ensures

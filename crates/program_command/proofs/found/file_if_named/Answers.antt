use Rattle.std.proofs.Common.{◌∙◌, sym}
use Rattle.clap.specs.Words.{found_of}
use Rattle.clap.proofs.WalkLemmas.{first_value-rows}
use Rattle.program_command.proofs.found.file_if_named.Goals as goal

pub returns : goal.returns
returns c = sym (first_value-rows (found_of c.args.found.now) c.args.file.name.now) ∙ sym c.get_str.ensures

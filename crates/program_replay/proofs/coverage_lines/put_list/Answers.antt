use Rattle.std.proofs.Common.{ap, ◌∙◌}
use Rattle.std.specs.Prelude.{decimal}
use Rattle.print_lines.proofs.Passing.{◌⊳◌, passes_as}
use Rattle.program_replay.proofs.coverage_lines.put_list.Goals as goal

pub returns : goal.returns
returns g c =
    c.put.ensures ⊳ c.put_location.ensures ⊳ c.put-2.ensures ⊳ c.put_number.ensures ⊳ c.put-3.ensures
    ⊳ passes_as (ap decimal (c.len.ensures ∙ c.args.list.now.patterns.ok.0)) c.put_number-2.ensures ⊳ c.put-4.ensures

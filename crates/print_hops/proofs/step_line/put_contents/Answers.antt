use Rattle.std.proofs.Common.{List, ap}
use Rattle.base_words.specs.declared.word.Word.{Word}
use Rattle.base_words.specs.Op.{op_of}
use Rattle.machine_steps.specs.WaysLeft.{seen_way}
use Rattle.print_lines.proofs.Passing.{◌⊳◌, passes_as}
use Rattle.print_hops.specs.ContentsText.{acted_text, acting}
use Rattle.print_hops.proofs.step_line.put_contents.Goals as goal

pub returns : goal.returns
returns g c cards =
    let told = c.args.told.now in
    let ins = told.instruction in
    c.put_registers.ensures cards
    ⊳ passes_as (ap (λ (drum : List Word). acted_text (acting (seen_way told.way) (op_of ins.op) ins.d) ins.d drum)
    (c.drum.ensures.words cards)) c.put_acted.ensures
    ⊳ c.put.ensures

-- Of put_step: the line is the course of the step and what the machine holds after it, one behind
-- the other. Both are those of the stride that the step is of.
use Rattle.base_notes.specs.Entries.{entry_in}
use Rattle.machine_emulator.specs.Machine.{held_by}
use Rattle.print_lines.proofs.Passing.{◌⊳◌, passes_as}
use Rattle.print_hops.specs.TimedHop.{seen_timed}
use Rattle.print_hops.proofs.Lines.{stride_told}
use Rattle.print_hops.proofs.step_line.put_step.Goals as goal

pub returns : goal.returns
returns g c stride is =
    let times = entry_in c.args.times.now in
    passes_as (stride_told times c.args.number c.args.angle stride (seen_timed c.as_hop-told.result) c.word_of.result
    c.of-moments.result (held_by c.args.machine.now is.cards)
    (c.as_hop-told.ensures.told times stride is.told is.time)
    (c.word_of.ensures times stride is.told) is.start c.of-moments.ensures is.held)
    (c.put_course.ensures ⊳ c.put_contents.ensures is.cards)

use Rattle.std.proofs.Common.{ap, ◌∙◌, Option, ℕ}
use Rattle.base_words.specs.Op.{op_of}
use Rattle.base_notes.specs.Entries.{entry_in}
use Rattle.print_lines.proofs.Passing.{◌⊳◌, passes_as}
use Rattle.print_hops.specs.declared.moments.Moments.{Moments}
use Rattle.print_hops.specs.Pieces.{angles_text}
use Rattle.print_hops.specs.TimedHop.{seen_timed}
use Rattle.print_hops.specs.Waits.{data_angle, on_drum}
use Rattle.print_hops.proofs.Lines.{kind_pieces}
use Rattle.print_hops.proofs.kind_line.put_kind.Goals as goal

pub returns : goal.returns
returns g c =
    let hop = seen_timed c.args.told.now in
    let had = c.data_at-operand.ensures ∙ ap (λ (m : Moments). on_drum hop.ins.d
    (on_drum hop.place (data_angle c.args.angle (op_of hop.ins.op) m.ready m.operand))) c.of-moments.ensures in
    passes_as (kind_pieces (entry_in c.args.times.now) c.args.angle hop c.args.sums.now)
    (c.put_hop.ensures ⊳ c.put_sums.ensures
    ⊳ passes_as (ap (λ (d : Option ℕ). angles_text d c.next_at.result) had
    ∙ ap (angles_text _) c.next_at.ensures) c.put_angles.ensures)

use Rattle.std.proofs.Common.{sym, ◌∙◌, arith}
use Rattle.base_words.specs.Location.{is_location}
use Rattle.base_words.specs.Op.{op_of}
use Rattle.flow_graph.specs.Alike.{branches_with}
use Rattle.flow_graph.proofs.Alikes.{ways_at, same_part, one_false}
use Rattle.flow_graph.proofs.alike.same_ways_end.Goals as goal

pub returns-clause-same : goal.returns-clause-same
returns-clause-same c d low high =
    let ins = c.args.instruction in
    let notes = c.args.notes.now in
    ways_at notes ins d (omega (arith, high, c.part_end.ensures.few))
    ∙ same_part notes (op_of ins.op) d ins.d ins.i (c.part_end.ensures.locations d low high)
    (c.part_end.ensures.drum d low high)
    (one_false (branches_with notes (op_of ins.op)) (is_location ins.d)
    (sym c.may_go_on_at_d.ensures ∙ c.if-may_go_on_at_d.false))

use Rattle.std.proofs.Common.{◌≡◌, None, Some, Option, sym, ap, ◌∙◌, arith}
use Rattle.base_words.specs.declared.op.Op.{Op}
use Rattle.base_words.specs.Op.{op_of}
use Rattle.machine_steps.specs.Writes.{writes_with}
use Rattle.flow_graph.proofs.Alikes.{writes_at, none_written, none_other}
use Rattle.flow_graph.proofs.alike.same_writes_end.Goals as goal

pub returns-then-d-ge-DRUM-clause-same : goal.returns-then-d-ge-DRUM-clause-same
returns-then-d-ge-DRUM-clause-same c d low high =
    let ins = c.args.instruction in
    writes_at ins d high ∙ none_written (op_of ins.op) d (omega (arith, low, c.if-d-ge-DRUM.true))
    ∙ sym (none_written (op_of ins.op) ins.d c.if-d-ge-DRUM.true)

pub returns-in_default-clause-same : goal.returns-in_default-clause-same
returns-in_default-clause-same c d low high =
    let ins = c.args.instruction in
    let none : op_of ins.op ≡ None = sym c.of.ensures.listed ∙ c.in_default.is in
    writes_at ins d high ∙ ap (λ (op : Option Op). writes_with op d) none
    ∙ sym (ap (λ (op : Option Op). writes_with op ins.d) none)

pub returns-in_default-op : goal.returns-in_default-op
returns-in_default-op c =
    let ins = c.args.instruction in
    let some : op_of ins.op ≡ Some c.in-Some.op = sym c.of.ensures.listed ∙ c.in-Some.is in
    record {
      past = omega (arith, ins.four);
      same =
          λ d low high. writes_at ins d high ∙ ap (λ (op : Option Op). writes_with op d) some
          ∙ none_other c.in-Some.op d c.in_default-op.not-Store c.in_default-op.not-Read
          ∙ sym (ap (λ (op : Option Op). writes_with op ins.d) some
          ∙ none_other c.in-Some.op ins.d c.in_default-op.not-Store c.in_default-op.not-Read);
    }

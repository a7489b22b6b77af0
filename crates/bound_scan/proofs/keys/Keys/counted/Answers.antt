use Rattle.std.proofs.Common.{◌≡◌, ℕ, ◌*◌, List, length, ap, ◌∙◌, arith}
use Rattle.base_notes.specs.declared.notes.mark.Mark.{Mark}
use Rattle.machine_steps.specs.CountsIn.{counts_in}
use Rattle.flow_graph.specs.Flow.{notes_of}
use Rattle.flow_graph.specs.Passes.{leading}
use Rattle.flow_acceptance.specs.OrderedFlow.{in_order}
use Rattle.bound_scan.proofs.Nodes.{as_long, small_product}
use Rattle.bound_scan.proofs.keys.Keys.counted.Goals as goal

pub overflow_mul-result : goal.overflow_mul-result
overflow_mul-result c =
    let marks = (notes_of c.args.self.now.accepted.now.flow).marks in
    let order = in_order c.args.self.now.accepted.now in
    let counts = counts_in c.args.counts marks in
    let lead : c.leading-round.result ≡ leading marks counts =
    c.leading-round.ensures ∙ ap (λ (all : List Mark). leading all (counts_in c.args.counts all)) c.marks.ensures.all in
    let words : c.len.result ≡ length order =
    as_long c.args.self.now c.len.result c.requires.keys c.len.ensures in
    let product : c.leading-round.result * c.len.result ≡ leading marks counts * length order =
    ap (λ (n : ℕ). n * c.len.result) lead ∙ ap (λ (n : ℕ). leading marks counts * n) words in
    omega (arith, product, small_product marks order counts c.requires.within c.requires.keys.ordered.0.few)

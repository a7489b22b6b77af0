-- Of Size::of: the passes are those in rounds of the flow's marks, and each number is told of no more than the size.
use Rattle.std.proofs.Common.{◌≡◌, ℕ, ◌+◌, ◌*◌, List, length, ap, ◌∙◌, subst, arith}
use Rattle.base_notes.specs.declared.notes.mark.Mark.{Mark}
use Rattle.base_notes.specs.Allowed.{Notes, AreSound}
use Rattle.flow_graph.specs.Accepted.{capped}
use Rattle.flow_graph.specs.Flow.{nodes_of, notes_of}
use Rattle.ceiling_checked.specs.InRounds.{passes_in_all, AreInRounds}
use Rattle.ceiling_checked.proofs.Fallback.{size_low}
use Rattle.ceiling_checked.proofs.size.Size.of.Goals as goal

pub returns : goal.returns
returns c =
    let flow = c.args.flow.now in
    let marks = (notes_of flow).marks in
    let rounds = c.in_ok-rounds.rounds.items in
    let same_marks : c.marks-marks.result.now ≡ marks =
    c.marks-marks.ensures.all ∙ ap (λ (n : Notes). n.marks) c.notes.ensures in
    let sound : AreSound (notes_of flow) = subst AreSound c.notes.ensures c.marks-marks.ensures.sound in
    let are : AreInRounds capped marks rounds =
    subst (λ (ms : List Mark). AreInRounds capped ms rounds) same_marks c.in_ok-rounds.ensures in
    let passes : c.passes_in_all-passes.result ≡ capped (passes_in_all marks rounds) =
    c.passes_in_all-passes.ensures ∙ ap (λ (all : List ℕ). capped (passes_in_all c.marks-marks.result.now all)) c.deref.ensures.value
    ∙ ap (λ (ms : List Mark). capped (passes_in_all ms rounds)) same_marks in
    let unit : c.size-nodes.result * c.from.result ≡ length (nodes_of flow) * c.args.longest =
    ap (λ (n : ℕ). n * c.from.result) c.size-nodes.ensures ∙ ap (λ (n : ℕ). length (nodes_of flow) * n) c.from.ensures in
    let whole : c.product-whole.result ≡ capped (c.size-nodes.result * c.from.result * capped (1 + c.passes_in_all-passes.result)) =
    c.product-whole.ensures ∙ ap (λ (n : ℕ). capped (c.size-nodes.result * c.from.result * n)) c.sum.ensures in
    record {
      rounds = are;
      passes = passes;
      unit = unit;
      whole = whole;
      low = size_low marks (length (nodes_of flow)) c.args.longest c.passes_in_all-passes.result c.sum.result
          c.product-whole.result rounds sound.nested are passes c.sum.ensures
          (c.product-whole.ensures ∙ ap (λ (n : ℕ). capped (n * c.sum.result)) unit);
      few = omega (arith, c.size-nodes.ensures);
    }

use Rattle.std.proofs.Common.{◌≡◌, ℕ, ◌+◌, ◌-◌, ◌<◌, List, length, ap, ◌∙◌, arith}
use Rattle.flow_graph.specs.Accepted.{capped}
use Rattle.std.proofs.lemmas.List.{length-set}
use Rattle.ceiling_checked.specs.InRounds.{passes_inside}
use Rattle.ceiling_checked.proofs.RoundSums.{one_more, told_one}
use Rattle.ceiling_checked.proofs.in_rounds.rounds_of.Goals as goal

pub loop-place-preserved : goal.loop-place-preserved
loop-place-preserved c =
    let marks = c.args.marks.now in
    let rounds = c.loop-place.rounds.items in
    let index : ℕ = length marks - 1 - c.loop-place.place in
    let below : index < length marks = omega (arith, c.loop-place-test.true) in
    let own : c.sum.result ≡ capped (1 + passes_inside marks index 0 marks rounds) =
    c.sum.ensures
    ∙ told_one (passes_inside marks index 0 marks c.deref.result.now) c.inside_of.result c.inside_of.ensures
    ∙ ap (λ (all : List ℕ). capped (1 + passes_inside marks index 0 marks all)) c.deref.ensures.value in
    record {
      long = length-set rounds index c.sum.result ∙ c.loop-place.invariant.long;
      each = λ k within from. one_more marks rounds index c.sum.result c.requires c.loop-place.invariant.long below own
          (λ later inside before. c.loop-place.invariant.each later inside
          (omega (arith, before, c.loop-place-test.true))) k within (omega (arith, from, c.loop-place-test.true));
    }

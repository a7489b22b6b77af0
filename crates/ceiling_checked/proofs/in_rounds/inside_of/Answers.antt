use Rattle.std.proofs.Common.{◌≡◌, ℕ, ◌+◌, ◌*◌, drop, ap, sym, ◌∙◌, arith}
use Rattle.std.specs.Prelude.{if◌then◌else◌, slice_index}
use Rattle.machine_steps.specs.Counts.{is_inside}
use Rattle.flow_graph.specs.Accepted.{capped}
use Rattle.flow_acceptance.proofs.Products.{told_low}
use Rattle.ceiling_checked.specs.InRounds.{passes_inside}
use Rattle.ceiling_checked.proofs.RoundSums.{inside_more, there, told_sum}
use Rattle.ceiling_checked.proofs.in_rounds.inside_of.Goals as goal

pub loop-index-preserved : goal.loop-index-preserved
loop-index-preserved c =
    let marks = c.args.marks.now in
    let rounds = c.args.rounds.now in
    let outer = c.args.outer in
    let index = c.loop-index.index in
    let mark = there marks index c.loop-index-test.true in
    let head : ℕ = if is_inside marks index outer then mark.0.most * slice_index rounds index else 0 in
    let rest : ℕ = passes_inside marks outer (index + 1) (drop (index + 1) marks) (drop (index + 1) rounds) in
    let one : c.passes_of.result ≡ capped head = c.passes_of.ensures mark.0 mark.1 in
    let more : passes_inside marks outer index (drop index marks) (drop index rounds) ≡ head + rest =
    inside_more marks outer marks rounds index mark.0 c.loop-index-test.true mark.1
    (omega (arith, c.requires, c.loop-index-test.true)) in
    record {
      all = told_sum c.loop-index.passes head rest c.sum-passes.result
          (c.sum-passes.ensures ∙ ap (λ (n : ℕ). capped (c.loop-index.passes + n)) one)
          ∙ ap (λ (n : ℕ). capped (c.loop-index.passes + n)) (sym more) ∙ c.loop-index.invariant.all;
      low = told_low _ _ c.sum-passes.ensures;
    }

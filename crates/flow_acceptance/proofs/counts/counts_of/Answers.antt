use Rattle.flow_acceptance.proofs.Products.{told_low, told_more}
use Rattle.flow_acceptance.proofs.counts.counts_of.Goals as goal

pub loop-mark-preserved : goal.loop-mark-preserved
loop-mark-preserved c = record {
  all = told_more c.args.marks.now c.loop-mark.mark-index c.loop-mark.counts c.product-counts.result c.mark-item.result
      c.loop-mark-test.true c.mark-item.is c.product-counts.ensures c.loop-mark.invariant.all;
  low = told_low _ _ c.product-counts.ensures;
}

use Rattle.std.proofs.Common.{◌<◌, slice_index_or, ◌∙◌, arith}
use Rattle.std.proofs.lemmas.List.{length-set}
use Rattle.std.proofs.lemmas.List.Elements.{Contains-get_or}
use Rattle.std.proofs.lemmas.Option.{slice_get-get_or, slice_get_within}
use Rattle.flow_loops.proofs.Rankings.{ranks_more}
use Rattle.flow_loops.proofs.ranking.ranks_in.Goals as goal

pub index_mut-requires : goal.index_mut-requires
index_mut-requires c =
    let order = c.args.order.now in
    let node = slice_index_or order c.loop-rank.rank 0 in
    let inside : node < c.args.size =
    c.requires.within node (Contains-get_or order c.loop-rank.rank 0 c.loop-rank-test.true) in
    omega (arith, inside, c.loop-rank.invariant.long, c.loop-rank.ranks.ok.0)

pub loop-rank-preserved : goal.loop-rank-preserved
loop-rank-preserved c =
    let order = c.args.order.now in
    let ranks = c.loop-rank.ranks.items in
    let k = c.loop-rank.rank in
    let node = slice_index_or order k 0 in
    let inside : node < c.args.size = c.requires.within node (Contains-get_or order k 0 c.loop-rank-test.true) in
    record {
      long = length-set ranks node k ∙ c.loop-rank.invariant.long;
      ranked =
          ranks_more order ranks k node c.requires.distinct (slice_get-get_or order k 0 c.loop-rank-test.true)
          (omega (arith, inside, c.loop-rank.invariant.long)) c.loop-rank.invariant.ranked;
    }

pub returns-clause-ranks : goal.returns-clause-ranks
returns-clause-ranks c rank node at =
    c.loop-rank.invariant.ranked rank node
    (omega (arith, slice_get_within c.args.order.now rank node at, c.loop-rank-test.false)) at

use Rattle.std.proofs.Common.{◌∙◌}
use Rattle.flow_graph.specs.Flow.{executed_in}
use Rattle.flow_graph.specs.Found.{places_of}
use Rattle.flow_graph.specs.Taken.{is_among}
use Rattle.print_graphs.proofs.Words.{word_more}
use Rattle.print_graphs.proofs.written.add_executed_writes.Goals as goal

pub loop-number-preserved : goal.loop-number-preserved
loop-number-preserved c =
    word_more (is_among (executed_in c.args.flow.now)) (places_of c.loop-number.written)
    (places_of c.add_word.new.written) c.loop-number.number c.writes-words.result.end c.loop-number-test.true
    c.in_ok-add_word.ensures ∙ c.loop-number.invariant

use Rattle.std.proofs.Common.{◌≡◌, true, false, ◌∙◌}
use Rattle.flow_graph.specs.Flow.{executed_in}
use Rattle.flow_graph.specs.Found.{places_of}
use Rattle.check_findings.specs.FoundAt.{is_fixed}
use Rattle.check_findings.proofs.Adding.{word_added, word_passed}
use Rattle.check_findings.proofs.Fixeds.{answered_fixed}
use Rattle.check_findings.proofs.altered.add_altered_by.Goals as goal

pub loop-number-preserved-then-not-has : goal.loop-number-preserved-then-not-has
loop-number-preserved-then-not-has c =
    let flow = c.args.flow.now in
    let number = c.loop-number.number in
    let free : is_fixed flow.notes.now (executed_in flow) number ≡ false =
    answered_fixed flow.notes.now (executed_in flow) c.args.fixed.now.flags.items number c.requires c.has.result
    c.has.ensures ∙ c.if-not-has.true in
    word_passed (is_fixed flow.notes.now (executed_in flow)) (places_of c.loop-number.altered) number
    c.writes-words.result.end c.loop-number-test.true free ∙ c.loop-number.invariant

pub loop-number-preserved : goal.loop-number-preserved
loop-number-preserved c =
    let flow = c.args.flow.now in
    let number = c.loop-number.number in
    let fixed : is_fixed flow.notes.now (executed_in flow) number ≡ true =
    answered_fixed flow.notes.now (executed_in flow) c.args.fixed.now.flags.items number c.requires c.has.result
    c.has.ensures ∙ c.if-not-has.false in
    word_added (is_fixed flow.notes.now (executed_in flow)) (places_of c.loop-number.altered) number
    c.writes-words.result.end c.loop-number-test.true (places_of c.add_word.new.altered) fixed c.in_ok-add_word.ensures
    ∙ c.loop-number.invariant

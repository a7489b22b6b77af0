-- Of pattern_may_stop: up to `same_ways_end` all instructions have the same ways, so the first one
-- tells of all. None before d may stop.
use Rattle.std.proofs.Common.{◌≡◌, true, false, sym, ap, ◌∙◌, arith}
use Rattle.std.specs.List.{list_any}
use Rattle.base_words.specs.declared.instruction.Instruction.{Instruction}
use Rattle.machine_steps.specs.Ways.{ways}
use Rattle.flow_graph.proofs.Matched.{matching_at, matching_d, matching_with_d}
use Rattle.print_graphs.specs.Graph.{stops}
use Rattle.print_graphs.specs.GraphOf.{has_stop_by}
use Rattle.print_graphs.proofs.Stopping.{alike_passed, here_enough, none_left}
use Rattle.print_graphs.proofs.stops.pattern_may_stop.Goals as goal

pub returns-then-has_stop : goal.returns-then-has_stop
returns-then-has_stop c =
    let notes = c.args.notes.now in
    let pattern = c.args.pattern in
    let d = c.loop-d.d in
    let here : has_stop_by notes (matching_at pattern d) ≡ true =
    sym (c.has_stop.ensures ∙ ap (list_any stops) c.of.ensures ∙ ap (has_stop_by notes) c.instruction_of-instruction.ensures)
    ∙ c.if-has_stop.true in
    sym (here_enough (has_stop_by notes) pattern d c.loop-d-test.true here) ∙ c.loop-d.invariant

pub loop-d-preserved : goal.loop-d-preserved
loop-d-preserved c =
    let notes = c.args.notes.now in
    let pattern = c.args.pattern in
    let d = c.loop-d.d in
    let next = c.same_ways_end-d.result in
    let ins = c.instruction_of-instruction.result in
    let made = c.instruction_of-instruction.ensures in
    let at : ins.d ≡ d = ap (λ (one : Instruction). one.d) made ∙ matching_d pattern d c.loop-d-test.true in
    let here : ways notes ins ≡ ways notes (matching_at pattern d) = ap (ways notes) made in
    let none : has_stop_by notes (matching_at pattern d) ≡ false =
    sym (c.has_stop.ensures ∙ ap (list_any stops) c.of.ensures ∙ ap (has_stop_by notes) made) ∙ c.if-has_stop.false in
    sym (alike_passed (has_stop_by notes) pattern d next c.loop-d-test.true
    (omega (arith, at, c.same_ways_end-d.ensures.past)) none
    (λ k low high. ap (list_any stops) (sym (ap (ways notes) (matching_with_d pattern ins d k made))
    ∙ c.same_ways_end-d.ensures.same k (omega (arith, at, low)) high ∙ here)))
    ∙ c.loop-d.invariant

pub returns : goal.returns
returns c =
    sym (none_left (has_stop_by c.args.notes.now) c.args.pattern c.loop-d.d c.loop-d-test.false) ∙ c.loop-d.invariant

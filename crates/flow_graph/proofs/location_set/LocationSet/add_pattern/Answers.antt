use Rattle.std.proofs.Common.{◌≡◌, List, ℕ, sym, ap, ◌∙◌, arith}
use Rattle.base_words.specs.declared.instruction.Instruction.{Instruction}
use Rattle.machine_steps.specs.Ways.{Way, ways}
use Rattle.flow_graph.specs.Executed.{with_new}
use Rattle.flow_graph.specs.Found.{places_of, targets_of, targets_by}
use Rattle.flow_graph.proofs.Additions.{added_alike}
use Rattle.flow_graph.proofs.Matched.{matching_at, matching_from, matching_d, matching_with_d}
use Rattle.flow_graph.proofs.location_set.LocationSet.add_pattern.Goals as goal

pub loop-d-preserved : goal.loop-d-preserved
loop-d-preserved c =
    let notes = c.args.notes.now in
    let pattern = c.args.pattern in
    let d = c.loop-d.d in
    let next = c.same_ways_end-d.result in
    let before = places_of c.loop-d.self in
    let ins = c.instruction_of-instruction.result in
    let made = c.instruction_of-instruction.ensures in
    let at : ins.d ≡ d = ap (λ (one : Instruction). one.d) made ∙ matching_d pattern d c.loop-d-test.true in
    let here : ways notes ins ≡ ways notes (matching_at pattern d) = ap (ways notes) made in
    let grown : places_of c.add_ways.new.self ≡ with_new before (targets_of (ways notes (matching_at pattern d))) =
    c.in_ok-add_ways.ensures ∙ ap (λ (all : List Way). with_new before (targets_of all)) (c.of.ensures ∙ here) in
    ap (λ (places : List ℕ). with_new places (targets_by notes (matching_from pattern next))) grown
    ∙ sym (added_alike (λ one. targets_of (ways notes one)) pattern before d next c.loop-d-test.true
    (omega (arith, at, c.same_ways_end-d.ensures.past))
    (λ k low high. ap targets_of (sym (ap (ways notes) (matching_with_d pattern ins d k made))
    ∙ c.same_ways_end-d.ensures.same k (omega (arith, at, low)) high ∙ here)))
    ∙ c.loop-d.invariant

use Rattle.std.proofs.Common.{◌≡◌, ℕ, List, sym, ap, ◌∙◌, arith}
use Rattle.std.specs.Prelude.{filter, flat_map}
use Rattle.base_words.specs.declared.instruction.Instruction.{Instruction}
use Rattle.machine_steps.specs.Writes.{writes}
use Rattle.flow_graph.specs.Executed.{with_new}
use Rattle.flow_graph.specs.Flow.{executed_in}
use Rattle.flow_graph.specs.Found.{places_of}
use Rattle.flow_graph.proofs.Additions.{added_alike}
use Rattle.flow_graph.proofs.Matched.{matching_at, matching_from, matching_d, matching_with_d}
use Rattle.check_findings.specs.FoundAt.{altered_by, is_fixed}
use Rattle.check_findings.proofs.altered.add_altered_in.Goals as goal

pub loop-d-preserved : goal.loop-d-preserved
loop-d-preserved c =
    let flow = c.args.flow.now in
    let adds : Instruction → List ℕ = altered_by flow.notes.now (executed_in flow) in
    let pattern = c.args.pattern in
    let d = c.loop-d.d in
    let next = c.same_writes_end-d.result in
    let before = places_of c.loop-d.altered in
    let ins = c.instruction_of-instruction.result in
    let made = c.instruction_of-instruction.ensures in
    let at : ins.d ≡ d = ap (λ (one : Instruction). one.d) made ∙ matching_d pattern d c.loop-d-test.true in
    let grown : places_of c.add_altered_by.new.altered ≡ with_new before (adds (matching_at pattern d)) =
    c.in_ok-add_altered_by.ensures ∙ ap (λ (one : Instruction). with_new before (adds one)) made in
    ap (λ (places : List ℕ). with_new places (flat_map adds (matching_from pattern next))) grown
    ∙ sym (added_alike adds pattern before d next c.loop-d-test.true
    (omega (arith, at, c.same_writes_end-d.ensures.past))
    (λ k low high. ap (filter (is_fixed flow.notes.now (executed_in flow)))
    (sym (ap (λ (one : Instruction). writes one) (matching_with_d pattern ins d k made))
    ∙ c.same_writes_end-d.ensures.same k (omega (arith, at, low)) high ∙ ap (λ (one : Instruction). writes one) made)))
    ∙ c.loop-d.invariant

use Rattle.std.proofs.Common.{◌≡◌, ℕ, true, false, ◌++◌, List, Option, ap, sym, ◌∙◌}
use Rattle.std.specs.Prelude.{is_some}
use Rattle.base_words.specs.declared.location.Location.{Location}
use Rattle.flow_graph.specs.Flow.{executed_in}
use Rattle.check_findings.specs.Finding.{Finding}
use Rattle.check_findings.specs.FoundAt.{unused_list_at}
use Rattle.check_findings.proofs.Adding.{added_all, added_next}
use Rattle.check_deck.specs.FindingsOf.{found_in}
use Rattle.check_deck.proofs.findings.Findings.add_all_unused_lists.Goals as goal

pub loop-number-preserved : goal.loop-number-preserved
loop-number-preserved c =
    let flow = c.args.flow.now in
    let f : ℕ → List Finding = unused_list_at flow.notes.now (executed_in flow) in
    let before = found_in c.loop-number.self in
    added_next f before (found_in c.add_unused_list.new.self) c.loop-number.number c.args.below c.loop-number-test.true
    (c.in_ok-add_unused_list.ensures ∙ ap (λ (n : ℕ). before ++ f n) c.in-Some.ensures.value) ∙ c.loop-number.invariant

pub unreachable-requires : goal.unreachable-requires
unreachable-requires c =
    let some : is_some c.new.result ≡ true =
    c.new.ensures.valid.1 (c.requires.locations c.loop-number.number c.loop-number.auto.number c.loop-number-test.true) in
    let clash : false ≡ true = sym (ap (λ (location : Option Location). is_some location) c.in_default.is) ∙ some in
    cc

pub returns : goal.returns
returns c =
    let flow = c.args.flow.now in
    sym (added_all (unused_list_at flow.notes.now (executed_in flow)) (found_in c.loop-number.self) c.loop-number.number
    c.args.below c.loop-number-test.false) ∙ c.loop-number.invariant

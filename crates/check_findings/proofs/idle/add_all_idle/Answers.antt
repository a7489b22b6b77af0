-- Of add_all_idle: one more location adds its words, or nothing.
use Rattle.std.proofs.Common.{◌≡◌, ℕ, ◌++◌, List, map, sym, ◌∙◌}
use Rattle.read_decks.specs.InDeck.{loads_in}
use Rattle.flow_graph.specs.Flow.{executed_in}
use Rattle.check_findings.specs.Finding.{Finding}
use Rattle.check_findings.specs.FindingOf.{seen}
use Rattle.check_findings.specs.Idle.{idle_at}
use Rattle.check_findings.proofs.Adding.{added_all, added_next}
use Rattle.check_findings.proofs.idle.add_all_idle.Goals as goal

pub loop-number-preserved : goal.loop-number-preserved
loop-number-preserved c =
    let flow = c.args.flow.now in
    let f : ℕ → List Finding = idle_at (loads_in flow.deck.now) flow.notes.now (executed_in flow) in
    added_next f (map seen c.loop-number.found.items) (map seen c.add_idle.new.found.items) c.loop-number.number
    c.args.below c.loop-number-test.true c.in_ok-add_idle.ensures ∙ c.loop-number.invariant

pub returns : goal.returns
returns c =
    let flow = c.args.flow.now in
    sym (added_all (idle_at (loads_in flow.deck.now) flow.notes.now (executed_in flow))
    (map seen c.loop-number.found.items) c.loop-number.number c.args.below c.loop-number-test.false) ∙ c.loop-number.invariant

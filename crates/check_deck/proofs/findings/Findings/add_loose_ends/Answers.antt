use Rattle.std.proofs.Common.{◌≡◌, List, ◌++◌, map, refl, ap, ◌∙◌}
use Rattle.read_decks.specs.InDeck.{loads_in}
use Rattle.flow_graph.specs.Flow.{executed_in, nodes_of}
use Rattle.check_findings.specs.Finding.{Finding}
use Rattle.check_findings.specs.FoundAt.{unused, unused_calls}
use Rattle.check_findings.specs.FindingOf.{seen}
use Rattle.check_findings.specs.Idle.{idle_words}
use Rattle.check_findings.proofs.Whole.{loose_in_turn}
use Rattle.check_deck.specs.Findings.{inside_at}
use Rattle.check_deck.specs.FindingsOf.{found_in}
use Rattle.check_deck.proofs.findings.Findings.add_loose_ends.Goals as goal

pub returns : goal.returns
returns c =
    let flow = c.args.flow.now in
    let loads = loads_in flow.deck.now in
    let notes = flow.notes.now in
    let executed = executed_in flow in
    let nodes = nodes_of flow in
    let unused_told = found_in c.add_unused.new.self in
    let calls_told = found_in c.add_all.new.self in
    let idle_told = found_in c.add_all-2.new.self in
    let unsaid = c.in_ok-unsaid.ensures in
    let meant : List Finding = map (inside_at notes.marks) unsaid.0 in
    let told_calls : map seen c.deref.result.now ≡ unused_calls loads notes executed nodes =
    ap (map seen) c.deref.ensures.value ∙ c.in_ok-calls.ensures in
    let told_idle : map seen c.deref-2.result.now ≡ idle_words loads notes executed =
    ap (map seen) c.deref-2.ensures.value ∙ c.in_ok-idle.ensures in
    let told_so : map seen c.deref-3.result.now ≡ meant = ap (map seen) c.deref-3.ensures.value ∙ unsaid.2 in (
      unused loads notes executed nodes ++ unused_calls loads notes executed nodes ++ idle_words loads notes executed ++ meant,
      record { pairs = unsaid.0; unsaid = unsaid.1; all = refl },
      loose_in_turn (found_in c.args.self.now) unused_told calls_told idle_told (found_in c.add_all-3.new.self)
          (unused loads notes executed nodes) (unused_calls loads notes executed nodes) (idle_words loads notes executed) meant
          c.in_ok-add_unused.ensures
          (c.in_ok-add_all.ensures ∙ ap (λ (all : List Finding). unused_told ++ all) told_calls)
          (c.in_ok-add_all-2.ensures ∙ ap (λ (all : List Finding). calls_told ++ all) told_idle)
          (c.in_ok-add_all-3.ensures ∙ ap (λ (all : List Finding). idle_told ++ all) told_so),
    )

use Rattle.std.proofs.Common.{◌++◌, ℕ, List, map, flat_map, ap, sym, ◌∙◌}
use Rattle.std.specs.List.{range_with_len}
use Rattle.read_decks.specs.InDeck.{loads_in}
use Rattle.flow_graph.specs.Flow.{executed_in}
use Rattle.check_findings.specs.declared.finding.Finding as held
use Rattle.check_findings.specs.Finding.{Finding}
use Rattle.check_findings.specs.FindingOf.{seen}
use Rattle.check_findings.specs.Idle.{idle_at}
use Rattle.check_findings.proofs.Whole.{on_drum}
use Rattle.check_findings.proofs.idle.idle_words.Goals as goal

pub returns : goal.returns
returns c =
    let flow = c.args.flow.now in
    let f : ℕ → List Finding = idle_at (loads_in flow.deck.now) flow.notes.now (executed_in flow) in
    let all : List ℕ = range_with_len 0 2000 in
    c.in_ok-add_all_idle.ensures
    ∙ ap (λ (items : List held.Finding). map seen items ++ flat_map f all) c.new-found.ensures.items
    ∙ sym (ap (flat_map f) on_drum)

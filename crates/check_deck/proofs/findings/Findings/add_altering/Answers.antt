use Rattle.std.proofs.Common.{ℕ, ◌∙◌}
use Rattle.std.proofs.lemmas.Result.{on_ok_weaker}
use Rattle.read_decks.specs.InDeck.{loads_in}
use Rattle.flow_graph.specs.Flow.{executed_in}
use Rattle.check_findings.specs.Finding.{alters}
use Rattle.check_findings.specs.FoundAt.{altered}
use Rattle.check_findings.specs.UnchangedParts.{kept_of}
use Rattle.check_findings.proofs.Adding.{words_altered}
use Rattle.check_deck.specs.FindingsOf.{found_in}
use Rattle.check_deck.proofs.findings.Findings.add_altering.Goals as goal

pub returns : goal.returns
returns c =
    let flow = c.args.flow.now in
    let writer = c.args.location.number in
    on_ok_weaker c.add_words.result
    (words_altered (λ (word : ℕ). alters writer word (kept_of (loads_in flow.deck.now) flow.notes.now writer word))
    (found_in c.args.self.now) (found_in c.add_words.new.self)
    c.locations.result.now (altered (loads_in flow.deck.now) flow.notes.now (executed_in flow) c.args.location.number)
    (c.locations.ensures.all ∙ c.in_ok-altered.ensures)) c.add_words.ensures

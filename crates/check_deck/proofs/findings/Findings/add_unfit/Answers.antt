use Rattle.std.proofs.Common.{◌≡◌, ℕ, List, ◌++◌, map, ap, ◌∙◌}
use Rattle.std.proofs.lemmas.Result.{on_ok_weaker}
use Rattle.read_decks.specs.declared.deck.Deck.{Deck}
use Rattle.read_decks.specs.InDeck.{loads_in}
use Rattle.base_notes.specs.Allowed.{Notes}
use Rattle.check_findings.specs.Finding.{not_in_profile}
use Rattle.check_findings.specs.FoundAt.{not_there, operations_outside}
use Rattle.check_findings.proofs.Adding.{added_both}
use Rattle.check_deck.specs.FindingsOf.{found_in}
use Rattle.check_deck.proofs.findings.Findings.add_unfit.Goals as goal

pub returns : goal.returns
returns c =
    let flow = c.args.flow.now in
    let n = c.args.location.number in
    let loads = loads_in flow.deck.now in
    let old = found_in c.args.self.now in
    let mid = found_in c.add_not_loaded.new.self in
    let first : mid ≡ old ++ not_there loads flow.notes.now n =
    c.in_ok-add_not_loaded.ensures
    ∙ ap (λ (deck : Deck). old ++ not_there (loads_in deck) c.notes.result.now n) c.deck.ensures
    ∙ ap (λ (notes : Notes). old ++ not_there loads notes n) c.notes.ensures in
    let operations : c.deref.result.now ≡ operations_outside loads flow.notes.now n =
    c.deref.ensures.value ∙ c.in_ok-operations.ensures
    ∙ ap (λ (deck : Deck). operations_outside (loads_in deck) c.notes-2.result.now n) c.deck-2.ensures
    ∙ ap (λ (notes : Notes). operations_outside loads notes n) c.notes-2.ensures in
    on_ok_weaker c.add_operations.result (λ added. added_both old mid (found_in c.add_operations.new.self)
    (not_there loads flow.notes.now n) (map (not_in_profile n) (operations_outside loads flow.notes.now n)) first
    (added ∙ ap (λ (all : List ℕ). mid ++ map (not_in_profile n) all) operations)) c.add_operations.ensures

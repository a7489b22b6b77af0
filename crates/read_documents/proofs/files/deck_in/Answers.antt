-- Of deck_in: a text that is refused was read as one that isn't.
use Rattle.std.proofs.Common.{inl, refl, rules}
use Rattle.std.proofs.lemmas.Result.{err_from_is_err_and}
use Rattle.print_lines.specs.declared.fault.Fault.TheVariants as faults
use Rattle.print_lines.specs.declared.part.Part.TheVariants as part
use Rattle.read_documents.proofs.Asking.{asks_as, refused_later}
use Rattle.read_documents.proofs.Refusing.{deck_unread}
use Rattle.read_documents.proofs.files.deck_in.Goals as goal

pub returns-in_err-deck-clause-asked : goal.returns-in_err-deck-clause-asked
returns-in_err-deck-clause-asked g c =
    let p = err_from_is_err_and c.from_residual-in_err-deck.result c.from_residual-in_err-deck.ensures.1 in
    let fault = c.in_err-deck.field-0.0 in
    let unread = deck_unread fault (λ is. search rules) in
    rw (p.1, p.2) (asks_as _ _ _ _
    (refused_later part.Deck c.args.name.now (faults.Deck fault) unread (inl refl, λ e. cc))
    c.in_ok-text.ensures.asked)

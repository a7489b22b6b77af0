-- Of joined_bound: the documents are those that the input's bytes give, and the bound is theirs. A
-- fault is one of the bytes, or the refusal of these documents.
use Rattle.std.proofs.Common.{inl, inr, refl, sym, ◌∙◌}
use Rattle.std.proofs.lemmas.Result.{err_from_is_err_and}
use Rattle.program_run.proofs.Replies.{past_limit}
use Rattle.program_run.proofs.OfNoFile.{refused_of_none, unread}
use Rattle.program_run.proofs.Replies.{err_map, ok_map, some_map}
use Rattle.program_run.proofs.running.joined_bound.Goals as goal

pub returns-in_err-documents-clause-fault : goal.returns-in_err-documents-clause-fault
returns-in_err-documents-clause-fault g c =
    let p = err_from_is_err_and c.from_residual.result c.from_residual.ensures.1 in
    rw (p.1, p.2) (some_map (g.I.Input.unread c.args.input.now) _ _ c.in_err-documents.ensures.fault
    (λ bytes none. inr (c.in_err-documents.field-0.0, inl none, refl, refl)))

pub returns-clause-bound : goal.returns-clause-bound
returns-clause-bound g c =
    ok_map _ _ c.bound_of.result c.bound_of.ensures.bound (λ bound is.
    some_map (g.I.Input.unread c.args.input.now) _ _ c.in_ok-documents.ensures.gives
    (λ bytes gives. inl (c.in_ok-documents.documents, gives, refl, (bound, is, refl))))

pub returns-clause-fault : goal.returns-clause-fault
returns-clause-fault g c =
    err_map _ _ c.bound_of.result c.bound_of.ensures.fault (λ fault is.
    some_map (g.I.Input.unread c.args.input.now) _ _ c.in_ok-documents.ensures.gives
    (λ bytes gives. inr (fault, inr (c.in_ok-documents.documents, gives, is), refl, refl)))

pub returns-in_err-documents-clause-counted : goal.returns-in_err-documents-clause-counted
returns-in_err-documents-clause-counted g c =
    let p = err_from_is_err_and c.from_residual.result c.from_residual.ensures.1 in
    rw (p.1, p.2) (λ failures failed. c.in_err-documents.ensures.counted failures failed)

pub returns-clause-counted : goal.returns-clause-counted
returns-clause-counted g c failures failed =
    c.in_ok-documents.ensures.counted failures failed
    ∙ sym (unread c.bound_of.result (err_map _ _ c.bound_of.result c.bound_of.ensures.fault (refused_of_none _)))

pub returns-in_err-documents-clause-full : goal.returns-in_err-documents-clause-full
returns-in_err-documents-clause-full g c =
    let p = err_from_is_err_and c.from_residual.result c.from_residual.ensures.1 in
    rw (p.1, p.2) (λ given. past_limit c.in_err-documents.field-0.0 (c.in_err-documents.ensures.full given))

pub returns-clause-full : goal.returns-clause-full
returns-clause-full g c given = absurd (elim (c.in_ok-documents.ensures.full given) [ inl is ↦ cc | inr is ↦ cc ])

pub returns-in_err-documents-clause-whole : goal.returns-in_err-documents-clause-whole
returns-in_err-documents-clause-whole g c =
    let p = err_from_is_err_and c.from_residual.result c.from_residual.ensures.1 in
    rw (p.1, p.2) (λ not_read not_memory. c.in_err-documents.ensures.whole (λ is. not_read (cc)) (λ is. not_memory (cc)))

pub returns-clause-whole : goal.returns-clause-whole
returns-clause-whole g c not_read not_memory = c.in_ok-documents.ensures.whole (λ is. cc) (λ is. cc)

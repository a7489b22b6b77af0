use Rattle.std.proofs.Common.{arith}
use Rattle.std.proofs.lemmas.Result.{IfOk-weaker, IfErr-weaker}
use Rattle.read_documents.proofs.Giving.{known_documents, known_none}
use Rattle.read_documents.proofs.joined_input.documents_of.Goals as goal

pub returns-in-Ok-clause-fault : goal.returns-in-Ok-clause-fault
returns-in-Ok-clause-fault g c =
    IfErr-weaker c.joined.result _ _ (λ fault is.
    known_none (g.I.Input.unread c.args.input.now) c.deref.result.now fault
    (rw c.deref.ensures.value c.in-Ok.ensures.all) (omega (arith, c.deref.ensures.len, c.in-Ok.ensures.within)) is)
    c.joined.ensures.fault

pub returns-in-Ok-clause-gives : goal.returns-in-Ok-clause-gives
returns-in-Ok-clause-gives g c =
    IfOk-weaker c.joined.result _ _ (λ documents is.
    known_documents (g.I.Input.unread c.args.input.now) c.deref.result.now documents
    (rw c.deref.ensures.value c.in-Ok.ensures.all) (omega (arith, c.deref.ensures.len, c.in-Ok.ensures.within)) is)
    c.joined.ensures.joins

use Rattle.std.proofs.lemmas.Result.{IfOk-weaker, IfErr-weaker}
use Rattle.read_documents.specs.PartsOf.{texts_of}
use Rattle.read_documents.proofs.Joining.{joins_none}
use Rattle.read_documents.proofs.joined_input.joined.Goals as goal

pub returns-clause-joins : goal.returns-clause-joins
returns-clause-joins c =
    IfOk-weaker c.of_texts.result _ _
    (λ documents said. (texts_of c.in-Some.parts, c.in-Some.ensures.found, said)) c.of_texts.ensures.said

pub returns-clause-fault : goal.returns-clause-fault
returns-clause-fault c =
    IfErr-weaker c.of_texts.result _ _
    (λ fault none. joins_none c.args.text.now (texts_of c.in-Some.parts) fault c.in-Some.ensures.found none)
    c.of_texts.ensures.fault

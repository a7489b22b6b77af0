use Rattle.std.proofs.Common.{refl}
use Rattle.read_documents.specs.Documents.{setting_of}
use Rattle.program_replay.specs.Given.{given}
use Rattle.program_replay.proofs.Beginning.{replay_of}
use Rattle.program_replay.proofs.picturing.picture_run.Goals as goal

pub returns-in-Ok-clause-verdict : goal.returns-in-Ok-clause-verdict
returns-in-Ok-clause-verdict c =
    let fixed = given c.args.inputs in
    let begun = c.in_ok-begun.begun in
    let is = c.in_ok-begun.ensures.begun in
    let judged = c.in-Ok.ensures fixed is.begun_of in
    replay_of (setting_of c.args.documents.now) fixed begun.most begun.most judged.0 c.in-Ok.pictured.verdict is.has
    is.worst refl judged.1

use Rattle.read_documents.specs.Documents.{setting_of}
use Rattle.program_replay.proofs.Beginning.{judged_before}
use Rattle.program_replay.proofs.Drawn.{judged_ok}
use Rattle.program_replay.proofs.picturing.judge.Goals as goal

pub returns-in-Some : goal.returns-in-Some
returns-in-Some c given is =
    (0, judged_before (setting_of c.args.documents.now) given c.args.begun is c.in-Some.verdict c.in-Some.is)

pub returns-in-None : goal.returns-in-None
returns-in-None c given is =
    judged_ok (setting_of c.args.documents.now) given c.args.begun is c.take_steps.result c.take_steps.ensures

pub take_steps-requires-clause-bounded : goal.take_steps-requires-clause-bounded
take_steps-requires-clause-bounded c = c.requires.ready.bounded

pub take_steps-requires-clause-begins : goal.take_steps-requires-clause-begins
take_steps-requires-clause-begins c = c.requires.ready.begins c.in-None.is

pub take_steps-requires-clause-follows : goal.take_steps-requires-clause-follows
take_steps-requires-clause-follows c = c.requires.ready.follows c.in-None.is

use Rattle.std.proofs.Common.{length, refl}
use Rattle.flow_graph.specs.SettingOf.{setting}
use Rattle.program_replay.specs.Given.{given}
use Rattle.program_replay.proofs.Beginning.{judged_before, judged_followed, replay_of}
use Rattle.program_replay.proofs.replaying.replay.Goals as goal

pub returns-in-Some-clause-verdict : goal.returns-in-Some-clause-verdict
returns-in-Some-clause-verdict c =
    let g = setting c.args.deck.now c.args.times.now c.args.notes.now in
    let is = c.in_ok-following.ensures.begun in
    let begun = c.in_ok-following.field-0 in
    replay_of g (given c.args.inputs) begun.most begun.most 0 c.in-Some.verdict is.has is.worst refl
    (judged_before g (given c.args.inputs) begun is.begun_of c.in-Some.verdict c.in-Some.is)

pub returns-in-None-clause-verdict : goal.returns-in-None-clause-verdict
returns-in-None-clause-verdict c =
    let g = setting c.args.deck.now c.args.times.now c.args.notes.now in
    let is = c.in_ok-following.ensures.begun in
    let begun = c.in_ok-following.field-0 in
    replay_of g (given c.args.inputs) begun.most begun.most (length c.follow_run.ensures.0) c.follow_run.result is.has is.worst
    refl
    (judged_followed g (given c.args.inputs) begun is.begun_of c.follow_run.ensures.0 c.follow_run.result c.follow_run.ensures.1)

use Rattle.std.proofs.Common.{◌∙◌, sym}
use Rattle.base_notes.specs.declared.times.Times.{Times}
use Rattle.flow_graph.specs.SettingOf.{setting}
use Rattle.print_lines.specs.declared.limit.Limit.TheVariants as limit
use Rattle.program_replay.specs.Given.{given}
use Rattle.program_replay.proofs.Drawn.{replay_begun, replay_wanting}
use Rattle.program_replay.proofs.replaying.begin_replay.Goals as goal

pub returns-clause-begun : goal.returns-clause-begun
returns-clause-begun c =
    let found = c.in_ok-bound.ensures.bound in
    replay_begun (λ (times : Times). setting c.args.deck.now times c.args.notes.now) c.args.times.now (given c.args.inputs)
    limit.Bound c.in_ok-bound.bound c.begin.result (sym c.loaded_by.ensures ∙ c.in_default.is, found.accepted) found.worst
    found.bounded c.begin.ensures.begun c.begin.ensures.limited

pub returns-clause-refused : goal.returns-clause-refused
returns-clause-refused c =
    let found = c.in_ok-bound.ensures.bound in
    replay_wanting (setting c.args.deck.now c.args.times.now c.args.notes.now) (given c.args.inputs) c.begin.result
    (sym c.loaded_by.ensures ∙ c.in_default.is, found.accepted) c.begin.ensures.memory

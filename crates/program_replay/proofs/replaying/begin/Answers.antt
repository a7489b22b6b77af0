-- Of begin: the machine is set up as the inputs say, the monitor has seen no stride, and no verdict
-- has come but for a switch that isn't as declared. So this is a run of the setting before its
-- first step.
use Rattle.std.proofs.Common.{◌≡◌, ◌∙◌, refl, sym, ap, None}
use Rattle.std.specs.Prelude.{option_map}
use Rattle.read_decks.specs.InDeck.{loads_in}
use Rattle.machine_emulator.specs.Feed.{cards_left}
use Rattle.machine_emulator.specs.Machine.{state_in}
use Rattle.machine_emulator.specs.Monitor.{answer_of}
use Rattle.flow_graph.specs.SettingOf.{setting}
use Rattle.program_replay.specs.Begun.{left_before}
use Rattle.program_replay.specs.declared.following.Following.{Following}
use Rattle.program_replay.proofs.Beginning.{no_answer, of_switch}
use Rattle.program_replay.proofs.Followed.{can_begin, none_yet}
use Rattle.program_replay.proofs.replaying.begin.Goals as goal

pub returns-clause-begun : goal.returns-clause-begun
returns-clause-begun c times bounded =
    let g = setting c.args.deck.now times c.args.notes.now in
    let cards = cards_left c.args.inputs.feed in
    let now = state_in c.in-Ok.machine cards in
    let set_up = c.in-Ok.ensures.set_up cards in
    let monitor = c.new-monitor.result in
    let following : Following =
    record { machine = c.in-Ok.machine; monitor = monitor; feed = c.args.inputs.feed; steps = 0 } in
    let told : c.verdict_before-verdict.result ≡ option_map left_before (answer_of monitor) =
    c.verdict_before-verdict.ensures ∙ ap (option_map left_before) c.left.ensures in
    let silent : c.verdict_before-verdict.result ≡ None → answer_of monitor ≡ None =
    λ none. no_answer (answer_of monitor) (sym told ∙ none) in
    let begins = λ (none : c.verdict_before-verdict.result ≡ None).
    can_begin g c.args.inputs.setup now (answer_of monitor) set_up (c.in-Ok.ensures.first cards)
    c.new-monitor.ensures.declared (silent none) in
    record {
      ready = record {
        bounded = bounded;
        below = c.requires.below;
        angle = set_up.angle;
        begins = begins;
        follows =
            λ none. none_yet g c.args.most following (begins none)
            (c.new-monitor.ensures.seen (loads_in c.args.deck.now))
            (silent none) c.in-Ok.ensures.runs refl;
      };
      are = record { set_up = set_up; reader = refl; feed = refl };
      before =
          λ verdict at. of_switch g c.args.inputs.setup (answer_of monitor) verdict c.new-monitor.ensures.declared
          (sym told ∙ at);
    }

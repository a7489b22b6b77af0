use Rattle.std.proofs.Common.{◌≡◌, Some, sym, ap, ◌∙◌}
use Rattle.std.specs.Prelude.{length, slice_get}
use Rattle.std.proofs.lemmas.Bool.{ltb-true}
use Rattle.std.proofs.lemmas.Option.{slice_get-get_or}
use Rattle.flow_graph.specs.SettingOf.{setting}
use Rattle.flow_walks.specs.Pieces.{spelled_at}
use Rattle.ceiling_rounds.proofs.setting.Setting.rounds.Goals as goal

pub returns : goal.returns
returns c before are =
    let own = c.args.self.now in
    let number = c.args.rounds.piece in
    let stretches = c.args.stretches.now in
    let one = c.in-Some.one.now in
    let made = rw c.in-Some-2.is at c.in_ok-all.ensures in
    let there : slice_get stretches number ≡ Some one =
    slice_get-get_or stretches number one (ltb-true number (length stretches) (sym c.in-Some.ensures.lookup.0))
    ∙ ap Some (sym c.in-Some.ensures.lookup.1) in
    made (setting own.deck.now own.times.now own.notes.now) (spelled_at before number) (are.come number one there)

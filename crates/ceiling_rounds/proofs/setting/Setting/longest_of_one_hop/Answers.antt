use Rattle.std.proofs.Common.{◌≡◌, sym, subst}
use Rattle.std.proofs.lemmas.Result.{IfOk-weaker}
use Rattle.base_notes.specs.Entries.{entry_in}
use Rattle.flow_graph.specs.Hops.{hops}
use Rattle.flow_graph.specs.SettingOf.{setting}
use Rattle.flow_walks.specs.Pieces.{seen_placed}
use Rattle.ceiling_rounds.specs.FirstHop.{AreNoLonger}
use Rattle.ceiling_rounds.specs.InRounds.{takes, total_of}
use Rattle.ceiling_rounds.specs.OneHop.{NoWalkOfOneHopTakesLonger}
use Rattle.ceiling_rounds.proofs.OneHops.{none_longer}
use Rattle.ceiling_rounds.proofs.setting.Setting.longest_of_one_hop.Goals as goal

pub returns-in-Some-clause-longest : goal.returns-in-Some-clause-longest
returns-in-Some-clause-longest c =
    let own = c.args.self.now in
    let g = setting own.deck.now own.times.now own.notes.now in
    let all = hops g.loads g.notes g.start in
    let one = c.in-Some.one in
    IfOk-weaker c.alone.result (λ walk. total_of walk ≡ takes (entry_in own.times.now) (seen_placed one))
    (λ walk. NoWalkOfOneHopTakesLonger g (total_of walk)) (λ walk time.
    none_longer g (total_of walk) own.deck.now.on_drum (subst (AreNoLonger g all) (sym time) c.in-Some.ensures.longest))
    c.alone.ensures.time

pub returns-in-None-clause-longest : goal.returns-in-None-clause-longest
returns-in-None-clause-longest c =
    let own = c.args.self.now in
    let g = setting own.deck.now own.times.now own.notes.now in
    let all = hops g.loads g.notes g.start in
    IfOk-weaker c.without_hop.result (λ walk. total_of walk ≡ 0)
    (λ walk. NoWalkOfOneHopTakesLonger g (total_of walk)) (λ walk time.
    none_longer g (total_of walk) own.deck.now.on_drum (subst (AreNoLonger g all) (sym time) c.in-None.ensures.longest))
    c.without_hop.ensures.no_time

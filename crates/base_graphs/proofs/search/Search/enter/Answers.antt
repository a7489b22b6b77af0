use Rattle.std.proofs.Common.{◌≡◌, List, Option, Some, sym, ◌∙◌, subst, arith}
use Rattle.std.specs.Prelude.{slice_get, slice_set}
use Rattle.std.proofs.lemmas.Option.{slice_get_within}
use Rattle.base_graphs.specs.declared.progress.Progress.{Progress}
use Rattle.base_graphs.specs.declared.progress.Progress.TheVariants.{New, Open}
use Rattle.base_graphs.specs.Graph.{row, size}
use Rattle.base_graphs.specs.Search.{IsSearch}
use Rattle.base_graphs.proofs.Lists.{get_written}
use Rattle.base_graphs.proofs.Searches.{enter_sound, forgets_none, less_left}
use Rattle.base_graphs.proofs.search.Search.enter.Goals as goal

pub returns-clause-sound : goal.returns-clause-sound
returns-clause-sound c =
    let search = c.args.self.now in
    let pushed = c.in_ok-push.ensures in
    subst (λ (path : List _). IsSearch (row c.args.graph.now) (size c.args.graph.now)
    (slice_set search.states.items c.args.node Open) search.passed.items path search.finished.items)
    (sym pushed.items)
    (enter_sound (row c.args.graph.now) (size c.args.graph.now) search.states.items search.passed.items
    search.path.items search.finished.items c.args.node c.requires.sound c.requires.new c.requires.linked)

pub returns-clause-less : goal.returns-clause-less
returns-clause-less c = less_left c.args.self.now.states.items c.args.node New Open c.requires.new (omega arith)

pub returns-clause-kept : goal.returns-clause-kept
returns-clause-kept c =
    forgets_none c.args.self.now.states.items c.args.node Open
    (slice_get_within c.args.self.now.states.items c.args.node New c.requires.new) (λ e. cc)

pub returns-clause-met : goal.returns-clause-met
returns-clause-met c e =
    let here : slice_get (slice_set c.args.self.now.states.items c.args.node Open) c.args.node ≡ Some Open =
    get_written c.args.self.now.states.items c.args.node Open
    (slice_get_within c.args.self.now.states.items c.args.node New c.requires.new) in
    let clash : ◌≡◌ {A = Option Progress} (Some Open) (Some New) = sym here ∙ e in
    cc

use Rattle.std.proofs.Common.{◌++◌, List, ℕ, true, sym, subst, reverse, ap, length, arith}
use Rattle.std.specs.Prelude.{slice_set}
use Rattle.std.proofs.lemmas.Option.{slice_get_within}
use Rattle.base_graphs.specs.Graph.{row, size}
use Rattle.base_graphs.proofs.Lists.{get_written}
use Rattle.flow_loops.specs.Arranging.{IsArranging}
use Rattle.flow_loops.proofs.Arrangements.{enter_sound, forgets_none, less_entered}
use Rattle.flow_loops.proofs.arrangement.Arrangement.enter.Goals as goal

pub returns-clause-sound : goal.returns-clause-sound
returns-clause-sound c =
    let search = c.args.self.now in
    subst (λ (path : List ℕ). IsArranging (row c.args.graph.now) (size c.args.graph.now)
    (slice_set search.met.items c.args.node true) search.passed.items path search.finished.items
    (path ++ reverse search.finished.items))
    (sym c.in_ok-push.ensures.items)
    (enter_sound (row c.args.graph.now) (size c.args.graph.now) search.met.items search.passed.items
    search.path.items search.finished.items c.args.node (reverse search.finished.items) c.requires.sound c.requires.new
    c.requires.linked)

pub returns-clause-less : goal.returns-clause-less
returns-clause-less c =
    let search = c.args.self.now in
    omega (
      arith,
      less_entered search.met.items search.path.items c.args.node c.requires.new,
      ap (λ (xs : List ℕ). length xs) c.in_ok-push.ensures.items,
    )

pub returns-clause-kept : goal.returns-clause-kept
returns-clause-kept c = forgets_none c.args.self.now.met.items c.args.node c.requires.new

pub returns-clause-met : goal.returns-clause-met
returns-clause-met c =
    get_written c.args.self.now.met.items c.args.node true
    (slice_get_within c.args.self.now.met.items c.args.node _ c.requires.new)

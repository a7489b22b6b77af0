use Rattle.std.proofs.Common.{List, sym, subst}
use Rattle.std.specs.Prelude.{Contains}
use Rattle.machine_steps.specs.Ways.{Way, ways}
use Rattle.machine_steps.specs.WaysLeft.{seen_way, ways_left}
use Rattle.base_graphs.proofs.Lists.{contains_here, contains_there}
use Rattle.ceiling_rounds.proofs.setting.has_way.Goals as goal

pub loop-one-preserved : goal.loop-one-preserved
loop-one-preserved c = λ way there.
    c.loop-one.invariant way
    (subst (λ (some : List Way). Contains some way) (sym c.in-Some.ensures.steps)
    (contains_there (seen_way c.in-Some.one) way (ways_left c.next.new.self) there))

pub returns-then-is_way : goal.returns-then-is_way
returns-then-is_way c = λ yes.
    let one = seen_way c.in-Some.one in
    let here =
    c.loop-one.invariant one
    (subst (λ (some : List Way). Contains some one) (sym c.in-Some.ensures.steps)
    (contains_here one (ways_left c.next.new.self))) in
    subst (λ (w : Way). Contains (ways c.args.notes.now c.args.instruction) w)
    (c.is_way.ensures c.if-is_way.true) here

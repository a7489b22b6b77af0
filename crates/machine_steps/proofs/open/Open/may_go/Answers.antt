use Rattle.std.proofs.Common.{arith, ap, sym, ◌∙◌}
use Rattle.machine_steps.specs.OpenIn.{between, number_of}
use Rattle.machine_steps.proofs.Opening.{let_go_more, not_let_go}
use Rattle.machine_steps.proofs.open.Open.may_go.Goals as goal

pub returns-then-not-lets_go : goal.returns-then-not-lets_go
returns-then-not-lets_go c =
    not_let_go c.args.calls.now c.args.self.now.ways (between c.args.from c.args.onto) c.loop-place.place
    c.index-calls-place.result c.index-self-place.result (omega arith) (omega arith) c.index-calls-place.is
    c.index-self-place.is
    (λ may. c.if-not-lets_go.ensures (λ exit. sym (ap number_of c.index-self-place.is) ∙ may exit))

pub loop-place-preserved : goal.loop-place-preserved
loop-place-preserved c =
    let_go_more c.args.calls.now c.args.self.now.ways (between c.args.from c.args.onto) c.loop-place.place
    c.index-calls-place.result c.index-self-place.result (omega arith) (omega arith) c.index-calls-place.is
    c.index-self-place.is
    (λ exit. ap number_of c.index-self-place.is ∙ c.if-not-lets_go.ensures exit) c.loop-place.invariant

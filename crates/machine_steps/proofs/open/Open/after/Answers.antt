use Rattle.std.proofs.Common.{arith, ap, sym, ◌∙◌, Option}
use Rattle.base_words.specs.declared.location.Location.{Location}
use Rattle.machine_steps.specs.Calls.{way_behind}
use Rattle.machine_steps.specs.OpenIn.{between, number_of}
use Rattle.machine_steps.proofs.Opening.{opened_more}
use Rattle.machine_steps.proofs.open.Open.after.Goals as goal

pub loop-place-preserved : goal.loop-place-preserved
loop-place-preserved c =
    opened_more c.args.calls.now (between c.args.from c.args.onto) c.loop-place.place c.loop-place.open.ways
    c.args.self.now.ways c.index-calls-place.result c.index-self-place.result c.way_behind.result
    (omega arith) (omega arith) (omega arith) c.index-calls-place.is c.index-self-place.is
    (c.way_behind.ensures ∙ ap (λ (way : Option Location). way_behind c.args.calls.now (between c.args.from c.args.onto)
    c.index-calls-place.result.exit.number (number_of way)) (sym c.index-self-place.is))
    c.loop-place.invariant

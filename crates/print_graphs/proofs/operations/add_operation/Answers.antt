use Rattle.std.proofs.Common.{eqb, ap, sym, ◌∙◌}
use Rattle.std.specs.List.{list_any}
use Rattle.print_graphs.proofs.PatternOperations.{op_new, op_there}
use Rattle.print_graphs.proofs.operations.add_operation.Goals as goal

pub returns-then-contains : goal.returns-then-contains
returns-then-contains c =
    op_there c.args.operations.now.items c.args.op
    (sym (c.contains.ensures.value ∙ ap (list_any (λ one. eqb one c.args.op)) c.deref.ensures.value) ∙ c.if-contains.true)

pub returns : goal.returns
returns c =
    c.in_ok-push.ensures.items ∙ op_new c.args.operations.now.items c.args.op
    (sym (c.contains.ensures.value ∙ ap (list_any (λ one. eqb one c.args.op)) c.deref.ensures.value) ∙ c.if-contains.false)

use Rattle.std.proofs.Common.{◌≡◌, true, false, eqb, Option, ap, sym, ◌∙◌}
use Rattle.std.specs.Prelude.{is_some}
use Rattle.std.specs.List.{list_any}
use Rattle.base_words.specs.declared.op.Op.{Op}
use Rattle.base_words.specs.Op.{op_of}
use Rattle.flow_graph.specs.Executed.{with_new}
use Rattle.check_findings.proofs.Outsides.{inside_none, outside_new, outside_there}
use Rattle.check_findings.proofs.operations.add_operation.Goals as goal

pub returns-then-is_some : goal.returns-then-is_some
returns-then-is_some c =
    let inside : is_some (op_of c.args.op) ≡ true =
    sym (ap (λ (op : Option Op). is_some op) c.of.ensures.listed) ∙ sym c.is_some.ensures ∙ c.if-is_some.true in
    sym (ap (with_new c.args.operations.now.items) (inside_none c.args.op inside))

pub returns-then-contains : goal.returns-then-contains
returns-then-contains c =
    let out : is_some (op_of c.args.op) ≡ false =
    sym (ap (λ (op : Option Op). is_some op) c.of.ensures.listed) ∙ sym c.is_some.ensures ∙ c.if-is_some.false in
    outside_there c.args.operations.now.items c.args.op out
    (sym (c.contains.ensures.value ∙ ap (list_any (λ one. eqb one c.args.op)) c.deref.ensures.value) ∙ c.if-contains.true)

pub returns : goal.returns
returns c =
    let out : is_some (op_of c.args.op) ≡ false =
    sym (ap (λ (op : Option Op). is_some op) c.of.ensures.listed) ∙ sym c.is_some.ensures ∙ c.if-is_some.false in
    c.in_ok-push.ensures.items ∙ outside_new c.args.operations.now.items c.args.op out
    (sym (c.contains.ensures.value ∙ ap (list_any (λ one. eqb one c.args.op)) c.deref.ensures.value) ∙ c.if-contains.false)

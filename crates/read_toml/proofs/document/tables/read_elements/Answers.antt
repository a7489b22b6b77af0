use Rattle.std.proofs.Common.{ap, ◌∙◌, length, arith, length-append}
use Rattle.std.proofs.lemmas.List.{drop_all}
use Rattle.toml.specs.View.{table_view, view}
use Rattle.read_toml.specs.NotesDocument.{table_of}
use Rattle.read_toml.proofs.Elements.{holds_behind, holds_here, said_length, says_all, says_more}
use Rattle.read_toml.proofs.document.tables.read_elements.Goals as goal

pub read_element-requires : goal.read_element-requires
read_element-requires g c =
    holds_here (g.T.Element.holds (table_view c.args.fields.now.whole.now)) c.args.items.now c.loop-value.value-index
    (length c.loop-value.elements.items) c.value-item.result c.loop-value-test.true c.value-item.is
    c.loop-value.invariant.left

pub loop-value-preserved : goal.loop-value-preserved
loop-value-preserved g c =
    let Say = g.T.Element.says (table_view c.args.fields.now.whole.now) in
    let more = c.in_ok-read_element.ensures in
    let v = c.value-item.result in
    let many = said_length Say (length c.loop-value.elements.items) (table_of (view v)) more.0 more.2 in
    let grown = ap length more.1 ∙ length-append c.loop-value.elements.items more.0 in
    record {
      said = says_more Say c.args.items.now c.loop-value.value-index v c.loop-value.elements.items
          c.read_element.new.elements.items more.0 c.loop-value-test.true c.value-item.is more.1 more.2
          c.loop-value.invariant.said;
      left = holds_behind (g.T.Element.holds (table_view c.args.fields.now.whole.now)) c.args.items.now
          c.loop-value.value-index (length c.loop-value.elements.items) v c.loop-value-test.true c.value-item.is
          c.loop-value.invariant.left (length c.read_element.new.elements.items) (omega (arith, grown, many));
    }

pub returns : goal.returns
returns g c =
    says_all (g.T.Element.says (table_view c.args.fields.now.whole.now)) c.args.items.now c.loop-value.value-index
    c.loop-value.elements.items (drop_all c.loop-value.value-index c.args.items.now c.loop-value-test.false)
    c.loop-value.invariant.said

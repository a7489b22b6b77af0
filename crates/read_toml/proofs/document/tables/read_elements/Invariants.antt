use Rattle.std.proofs.Common.{◌++◌, List, drop, length}
use Rattle.toml.specs.View.{items_view, table_view}
use Rattle.read_toml.specs.Elements.{Each}
use Rattle.read_toml.specs.NotesDocument.{AreSaid, tables_of}
use Rattle.read_toml.proofs.document.tables.read_elements.Given as goal

abbrev pub invariant-loop-value : goal.invariant-loop-value
invariant-loop-value g l = record {
  -- what the tables that are left say, with what is there, is what all say
  said : (rest : List g.row.T.Denot)
      → AreSaid (g.T.Element.says (table_view l.fields.whole.now)) (length l.elements.items)
      (tables_of (items_view (drop l.value-index l.items))) rest
      → AreSaid (g.T.Element.says (table_view l.fields.whole.now)) 0 (tables_of (items_view l.items))
      (l.elements.items ++ rest);
  -- and each of them says something
  left : Each (g.T.Element.holds (table_view l.fields.whole.now)) (length l.elements.items)
      (tables_of (items_view (drop l.value-index l.items)));
}

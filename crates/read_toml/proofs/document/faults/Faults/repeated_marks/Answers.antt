-- Of repeated_marks: the marks have no fault, and the edges are those that they say.
use Rattle.std.proofs.Common.{[], ap, sym, ◌∙◌, subst}
use Rattle.std.specs.Prelude.{codes, flat_map}
use Rattle.toml.specs.Data.{Members}
use Rattle.toml.specs.View.{table_view}
use Rattle.base_notes.specs.Marks.{edges_of}
use Rattle.read_toml.specs.Elements.{Each, HoldsMark}
use Rattle.read_toml.specs.Kinds as kinds
use Rattle.read_toml.specs.LongMarks.{IsMark}
use Rattle.read_toml.specs.NotesDocument.{AreSaid, edge_faults, tables_at}
use Rattle.read_toml.proofs.Adding.{adds_same}
use Rattle.read_toml.proofs.NotesThere.{edges_are, marks_hold_of}
use Rattle.read_toml.proofs.Sound.{edges_same, repeated_where}
use Rattle.read_toml.proofs.document.faults.Faults.repeated_marks.Goals as goal

pub elements-requires : goal.elements-requires
elements-requires c =
    let D = table_view c.args.top.now.table.now in
    subst (λ (W : Members). Each (HoldsMark W) 0 (tables_at (codes "mark") D)) (sym c.requires.whole)
    (marks_hold_of c.args.read D (c.requires.fine c.if-not-fine.false))

pub returns : goal.returns
returns c =
    let D = table_view c.args.top.now.table.now in
    let marks = c.in_ok-marks.marks.items in
    let fine = c.requires.fine c.if-not-fine.false in
    let are = subst (λ (W : Members). AreSaid (IsMark W) 0 (tables_at (codes "mark") D) marks) c.requires.whole
    c.in_ok-marks.ensures in
    adds_same _ _ _ _
    (ap (edge_faults []) (ap (flat_map edges_of) c.deref.ensures.value
    ∙ sym (edges_same D 0 (tables_at (codes "mark") D) marks are) ∙ edges_are c.args.read D fine)
    ∙ sym (repeated_where (kinds.edges_of c.args.read D) (kinds.marks_of c.args.read D) fine))
    c.in_ok-second_edges.ensures

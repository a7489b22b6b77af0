use Rattle.std.proofs.Common.{◌≡◌, ◌+◌, ◌-◌, ℕ, ap, Bool, arith}
use Rattle.std.specs.Prelude.{codes}
use Rattle.toml.specs.View.{table_view}
use Rattle.read_toml.specs.Document.{at_key, missing_in, unknown_in}
use Rattle.read_toml.specs.LongMarks.{edge_checks, long_mark_keys, name_faults, names_in, outer_faults, wanted_keys}
use Rattle.read_toml.proofs.Adding.{adds_more, adds_same, adds_none}
use Rattle.read_toml.proofs.notes.read_mark.MarkChecked.check.Goals as goal

pub returns : goal.returns
returns c =
    let at = c.args.fields.now.at.now in
    let fields = table_view c.args.fields.now.table.now in
    let names = names_in (table_view c.args.fields.now.whole.now) in
    let earlier : c.args.place ≡ c.args.place + 1 - 1 = omega arith in
    let is = c.lists_edges-listed.ensures in
    adds_more _ _ _ _ _
    (adds_same _ _ _ _ (ap (λ (b : Bool). unknown_in at (long_mark_keys b) fields) is) c.in_ok-long_keys.ensures)
    (adds_more _ _ _ _ _
    (adds_same _ _ _ _ (ap (λ (b : Bool). missing_in at (wanted_keys b) fields) is) c.in_ok-wanted_keys.ensures)
    (adds_more _ _ _ _ _
    (adds_same _ _ _ _ (ap (λ (b : Bool). edge_checks b at fields) is) c.in_ok-mark_edges.ensures)
    (adds_more _ _ _ _ _ c.in_ok-whole_number.ensures
    (adds_more _ _ _ _ _
    (adds_same _ _ _ _ (ap (λ (n : ℕ). at_key (outer_faults names n) at (codes "inside") fields) earlier)
    c.in_ok-outer.ensures)
    (adds_more _ _ _ _ _
    (adds_same _ _ _ _ (ap (λ (n : ℕ). at_key (name_faults names n) at (codes "name") fields) earlier)
    c.in_ok-name.ensures)
    (adds_none _))))))

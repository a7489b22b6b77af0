-- A list whose table holds one: its location, and as many patterns as there may be.
use Rattle.std.proofs.Common.{subst, arith}
use Rattle.std.specs.Prelude.{codes}
use Rattle.base_words.specs.Location.{IsLocation}
use Rattle.toml.specs.View.{table_view}
use Rattle.read_toml.specs.NotesDocument.{IsPattern, tables_at}
use Rattle.read_toml.proofs.Elements.{each_said, said_length}
use Rattle.read_toml.proofs.notes.read_list.ListingElement.read.Goals as goal

pub location-requires : goal.location-requires
location-requires c = subst IsLocation c.requires.says.location c.requires.place

pub elements-requires : goal.elements-requires
elements-requires c =
    each_said (λ index one pattern. IsPattern one pattern) 0 (tables_at (codes "pattern") (table_view c.args.fields.now.table.now))
    c.requires.list.patterns c.requires.says.patterns

pub invariant_of-result : goal.invariant_of-result
invariant_of-result c =
    let tables = tables_at (codes "pattern") (table_view c.args.fields.now.table.now) in
    let mine = said_length (λ index one pattern. IsPattern one pattern) 0 tables c.in_ok-elements.field-0.items
    c.in_ok-elements.ensures in
    let its = said_length (λ index one pattern. IsPattern one pattern) 0 tables c.requires.list.patterns
    c.requires.says.patterns in
    let many = c.in_ok-elements.field-0.ok.0 in
    record {
      some = omega (arith, many, mine, its, c.requires.some);
      few = omega (arith, many, mine, its, c.requires.few);
    }

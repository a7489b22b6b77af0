use Rattle.std.proofs.Common.{◌≡◌, List, [], ap, subst, sym, ◌∙◌}
use Rattle.std.specs.Prelude.{codes, slice_get}
use Rattle.toml.specs.Data.{Members}
use Rattle.toml.specs.View.{table_view}
use Rattle.base_words.specs.declared.op.Op.{Op}
use Rattle.base_words.proofs.OpLaws.{place_of}
use Rattle.base_notes.specs.Entries.{entry_in}
use Rattle.read_toml.specs.Document.{table_at}
use Rattle.read_toml.specs.TimesDocument.{IsEntry, key_of, operation_faults}
use Rattle.read_toml.proofs.Faultless.{table_at_is}
use Rattle.read_toml.proofs.TimesEntries.{operations_there, same_table}
use Rattle.read_toml.proofs.times.read.times_in.Goals as goal

pub table-requires : goal.table-requires
table-requires c = let T = operations_there (table_view c.args.table.now) c.requires in (T.0, T.1)

pub read_entries-requires-clause-faultless : goal.read_entries-requires-clause-faultless
read_entries-requires-clause-faultless c =
    let D = table_view c.args.table.now in
    let T = operations_there D c.requires in
    λ op. subst (λ (t : Members). operation_faults t op ≡ []) (same_table (codes "op") D T.0 _ T.1 c.table.ensures) (T.2 op)

pub returns : goal.returns
returns c =
    let D = table_view c.args.table.now in
    let is = table_at_is (codes "op") D (table_view c.table.result.now) c.table.ensures in
    record {
      faultless = c.requires;
      each = λ op.
          let place = place_of op in
          subst (λ (t : Members). IsEntry (table_at (key_of op) t) (entry_in c.read_entries.result op)) (sym is)
          (c.read_entries.ensures place.0 op (ap (λ (os : List Op). slice_get os place.0) c.all.ensures ∙ place.1));
    }

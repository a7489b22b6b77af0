use Rattle.std.proofs.Common.{List, ℕ, ◌∙◌, sym, subst, arith}
use Rattle.std.proofs.Math.ListN.{length-set}
use Rattle.std.proofs.lemmas.Option.{slice_get_within}
use Rattle.toml.specs.View.{table_view}
use Rattle.base_words.specs.declared.op.Op.{Op}
use Rattle.base_words.specs.declared.op.Op.TheVariants.{NoOperation}
use Rattle.base_notes.specs.declared.entry.Entry.{Entry}
use Rattle.read_toml.specs.Document.{table_at}
use Rattle.read_toml.specs.TimesDocument.{IsEntry, key_of}
use Rattle.read_toml.proofs.TimesEntries.{keyed_at, one_more}
use Rattle.read_toml.proofs.times.read.read_entries.Goals as goal

pub read_operation-requires : goal.read_operation-requires
read_operation-requires c =
    let key = keyed_at c.args.keys.now c.args.ops.now c.loop-at.at _ NoOperation c.requires.keyed c.loop-at-test.true in
    (_, key, c.requires.faultless _)

pub loop-at-preserved : goal.loop-at-preserved
loop-at-preserved c =
    let T = table_view c.args.operations.now.table.now in
    let said : Op → Entry → Type 0 = λ op entry. IsEntry (table_at (key_of op) T) entry in
    let key = keyed_at c.args.keys.now c.args.ops.now c.loop-at.at _ NoOperation c.requires.keyed c.loop-at-test.true in
    record {
      size = length-set c.loop-at.entries c.number.result c.read_operation.result ∙ c.loop-at.invariant.size;
      said =
          one_more said c.args.ops.now c.loop-at.entries c.loop-at.at NoOperation c.number.result
          c.read_operation.result c.loop-at.invariant.size c.loop-at-test.true c.number.ensures
          (subst (λ (k : List ℕ). IsEntry (table_at k T) c.read_operation.result) key c.read_operation.ensures)
          c.loop-at.invariant.said;
    }

pub returns : goal.returns
returns c =
    let T = table_view c.args.operations.now.table.now in
    λ k op at.
    subst (IsEntry (table_at (key_of op) T)) (sym (c.new.ensures op))
    (c.loop-at.invariant.said k op (omega (arith, slice_get_within c.args.ops.now k op at)) at)

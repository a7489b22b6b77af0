use Rattle.std.proofs.Common.{◌≡◌, ℕ, ◌<◌, Some, length}
use Rattle.std.specs.Prelude.{slice_get, slice_index_or}
use Rattle.toml.specs.View.{table_view}
use Rattle.base_words.specs.declared.op.Op.{Op}
use Rattle.base_words.specs.Op.{number_of}
use Rattle.base_notes.specs.Entries.{blank}
use Rattle.read_toml.specs.Document.{table_at}
use Rattle.read_toml.specs.TimesDocument.{IsEntry, key_of}
use Rattle.read_toml.proofs.times.read.read_entries.Given as goal

abbrev pub invariant-loop-at : goal.invariant-loop-at
invariant-loop-at l = record {
  size : length l.entries ≡ 100;
  -- the entries so far are said
  said : (k : ℕ) (op : Op) → k < l.at → slice_get l.ops k ≡ Some op
      → IsEntry (table_at (key_of op) (table_view l.operations.table.now)) (slice_index_or l.entries (number_of op) blank);
}

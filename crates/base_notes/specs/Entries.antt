-- What a timing table says of an operation.
use Rattle.std.specs.Prelude.{slice_index_or}
use Rattle.std.proofs.Common.{lit≤}
use Rattle.base_words.specs.declared.op.Op.{Op}
use Rattle.base_words.specs.declared.parity.Parity.TheVariants.{Any}
use Rattle.base_words.specs.Op.{number_of}
use Rattle.base_notes.specs.declared.entry.Entry.{Entry}
use Rattle.base_notes.specs.declared.times.Times.{Times}

-- the shortest entry, which stands where no operation is
abbrev pub blank : Entry
blank = record {
  before = 1;
  after = 0;
  parity = Any;
  per = 0;
  wait_min = 0;
  wait_max = 0;
  some_before = lit≤ tt;
  short_before = lit≤ tt;
  short_after = lit≤ tt;
  short_per = lit≤ tt;
  waits = lit≤ tt;
  short_wait = lit≤ tt;
}

-- the entry of an operation
abbrev pub entry_in : Times → Op → Entry
entry_in times op = slice_index_or times.entries (number_of op) blank

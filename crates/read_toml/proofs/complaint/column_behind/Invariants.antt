use Rattle.std.proofs.Common.{◌≡◌, ◌+◌, ◌≤◌, drop}
use Rattle.read_toml.specs.Complaint as said
use Rattle.read_toml.proofs.complaint.column_behind.Given as goal

abbrev pub invariant-loop-byte : goal.invariant-loop-byte
invariant-loop-byte l = record {
  few : l.column ≤ l.byte-index + 1;
  -- the column behind the bytes that are left is that behind all
  same : said.column_behind l.column (drop l.byte-index l.before) ≡ said.column_behind 1 l.before;
}

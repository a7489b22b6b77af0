-- A timing table that is nowhere quicker than another one.
use Rattle.std.specs.Prelude.{◌≡◌, ◌≤◌, ◌⊎◌}
use Rattle.base_words.specs.declared.op.Op.{Op}
use Rattle.base_words.specs.declared.parity.Parity.TheVariants.{Any}
use Rattle.base_notes.specs.declared.entry.Entry.{Entry}
use Rattle.flow_graph.specs.Walk.{Setting}

-- One entry is nowhere quicker than another: each number that a bound goes by is as large or
-- larger, and the parity is the other's, or the other's is any.
pub record IsNoQuicker (slower entry : Entry) : Type 0 where
  pub before : entry.before ≤ slower.before
  pub after : entry.after ≤ slower.after
  pub per : entry.per ≤ slower.per
  pub wait : entry.wait_max ≤ slower.wait_max
  pub parity : (entry.parity ≡ slower.parity) ⊎ (entry.parity ≡ Any)

abbrev pub AreNoQuicker : (Op → Entry) → (Op → Entry) → Type 0
AreNoQuicker slower times = (op : Op) → IsNoQuicker (slower op) (times op)

-- the same deck and notes with another timing table
abbrev pub with_times : Setting → (Op → Entry) → Setting
with_times g times = record { loads = g.loads; notes = g.notes; times = times; start = g.start }

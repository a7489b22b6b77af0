-- What definitions are evaluated on: a timing table with one entry that isn't blank, and two marks.
use Rattle.std.proofs.Common.{◌≤◌, [], arith, lit≤, Some, None}
use Rattle.std.specs.Prelude.{codes}
use Rattle.base_words.specs.declared.location.Location.{Location}
use Rattle.base_words.specs.declared.op.Op.{Op}
use Rattle.base_words.specs.declared.op.Op.TheVariants.{LoadDistributor}
use Rattle.base_words.specs.declared.parity.Parity.TheVariants.{Any}
use Rattle.base_words.specs.Location.{IsLocation}
use Rattle.base_notes.specs.declared.entry.Entry.{Entry}
use Rattle.base_notes.specs.declared.notes.mark.Mark.{Mark}
use Rattle.base_notes.specs.Entries.{blank}

-- 69 takes three word times before it has its data and three after, all else one in all
abbrev pub loading : Entry
loading = record {
  before = 3;
  after = 3;
  parity = Any;
  per = 0;
  wait_min = 0;
  wait_max = 0;
  some_before = lit≤ tt;
  short_before = lit≤ tt;
  short_after = lit≤ tt;
  short_per = lit≤ tt;
  waits = lit≤ tt;
  short_wait = lit≤ tt;
}

abbrev pub times : Op → Entry
times LoadDistributor = loading
times _ = blank

pub are_there : IsLocation 106 × IsLocation 100
are_there = ((omega arith, λ past. omega arith), (omega arith, λ past. omega arith))

abbrev pub target : Location
target = record { number = 106; exists = are_there.0 }

abbrev pub origin : Location
origin = record { number = 100; exists = are_there.1 }

pub few : 12 ≤ 9999
few = omega arith

-- a mark of the edge from the one to the other, without a name and with one
abbrev pub plain : Mark
plain = record {
  from = origin;
  onto = target;
  others = [];
  most = 12;
  inside = None;
  name = None;
  four_digits = few;
}

abbrev pub named : Mark
named = record {
  from = origin;
  onto = target;
  others = [];
  most = 12;
  inside = None;
  name = Some (codes "cards");
  four_digits = few;
}

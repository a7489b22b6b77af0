-- A machine to evaluate the definitions on: the timing table that the tests use, and two words on the drum.
use Rattle.std.proofs.Common.{ℕ, ◌+◌, ◌≤◌, Bool, true, false, List, [], replicate, arith, ℤ, None}
use Rattle.std.specs.Prelude.{slice_set, slice_index_or}
use Rattle.base_words.specs.declared.op.Op.{Op}
use Rattle.base_words.specs.declared.op.Op.TheVariants.{NoOperation, Stop, Add, ResetAdd, Divide, DivideReset, Multiply}
use Rattle.base_words.specs.declared.op.Op.TheVariants.{Store, Shift, Branch, LoadDistributor, Read, Punch}
use Rattle.base_words.specs.declared.op.Op.TheVariants.{BranchOnDigit}
use Rattle.base_words.specs.declared.op.store.Store.TheVariants as store
use Rattle.base_words.specs.declared.parity.Parity.{Parity}
use Rattle.base_words.specs.declared.parity.Parity.TheVariants.{Any, Even, Odd}
use Rattle.base_words.specs.declared.word.Word.{Word}
use Rattle.base_words.specs.Word.{word}
use Rattle.base_notes.specs.declared.entry.Entry.{Entry}
use Rattle.machine_steps.specs.Contents.{Contents}
use Rattle.machine_steps.specs.Effect.{Outcome, goes, stops}
use Rattle.machine_steps.specs.Step.{State}

-- that the word times of an entry are in their ranges
abbrev pub AreInRange : (before after per wait_min wait_max : ℕ) → Type 0
AreInRange before after per wait_min wait_max =
    (1 ≤ before) × (wait_min ≤ wait_max) × (before + after + per + wait_max ≤ 1000000)

abbrev pub entry : (before after : ℕ) → Parity → (per wait_min wait_max : ℕ)
    → AreInRange before after per wait_min wait_max → Entry
entry before after parity per wait_min wait_max (some, waits, short) = record {
  before = before;
  after = after;
  parity = parity;
  per = per;
  wait_min = wait_min;
  wait_max = wait_max;
  some_before = some;
  short_before = omega (arith, short);
  short_after = omega (arith, short);
  short_per = omega (arith, short);
  waits = waits;
  short_wait = omega (arith, short);
}

pub quick : AreInRange 1 0 0 0 0
quick = (omega arith, omega arith, omega arith)

pub adding : AreInRange 3 2 0 0 0
adding = (omega arith, omega arith, omega arith)

pub dividing : AreInRange 3 5 2 0 0
dividing = (omega arith, omega arith, omega arith)

pub multiplying : AreInRange 3 1 2 0 0
multiplying = (omega arith, omega arith, omega arith)

pub storing : AreInRange 3 3 0 0 0
storing = (omega arith, omega arith, omega arith)

pub joining : AreInRange 3 4 0 0 0
joining = (omega arith, omega arith, omega arith)

pub shifting : AreInRange 2 1 2 0 0
shifting = (omega arith, omega arith, omega arith)

pub branching : AreInRange 2 1 0 0 0
branching = (omega arith, omega arith, omega arith)

pub with_cards : AreInRange 1 1 0 100 3125
with_cards = (omega arith, omega arith, omega arith)

-- the timing table
abbrev pub times : Op → Entry
times NoOperation = entry 1 0 Any 0 0 0 quick
times Stop = entry 1 0 Any 0 0 0 quick
times (Add a) = entry 3 2 Even 0 0 0 adding
times (ResetAdd a) = entry 3 2 Even 0 0 0 adding
times Divide = entry 3 5 Even 2 0 0 dividing
times DivideReset = entry 3 5 Even 2 0 0 dividing
times Multiply = entry 3 1 Odd 2 0 0 multiplying
times (Store store.DataAddress) = entry 3 4 Any 0 0 0 joining
times (Store store.InstructionAddress) = entry 3 4 Any 0 0 0 joining
times (Store s) = entry 3 3 Any 0 0 0 storing
times (Shift s) = entry 2 1 Even 2 0 0 shifting
times (Branch b) = entry 2 1 Any 0 0 0 branching
times LoadDistributor = entry 3 3 Any 0 0 0 storing
times Read = entry 1 1 Any 0 100 3125 with_cards
times Punch = entry 1 1 Any 0 100 3125 with_cards
times (BranchOnDigit p) = entry 2 1 Any 0 0 0 branching

-- the start of a drum with one word at 0100 and another at 0103
abbrev pub drum : Word → Word → List Word
drum first second = slice_set (slice_set (replicate 160 (word false 0)) 100 first) 103 second

-- a machine that seeks 0100 from start angle 1
abbrev pub state : Word → Word → Word → ℤ → Bool → State
state first second distributor accumulator overflow_stops = record {
  contents = record {
    drum = drum first second;
    switches = word false 0;
    distributor = distributor;
    accumulator = accumulator;
    remainder = None;
    latch = false;
    programmed_stops = true;
    overflow_stops = overflow_stops;
    cards = [];
  };
  sought = 100;
  time = 0;
  first_angle = 1;
}

abbrev pub zero_word : Word
zero_word = word false 0

-- the word at a drum location
abbrev pub word_in : Contents → ℕ → Word
word_in c n = slice_index_or c.drum n zero_word

abbrev pub next_of : Outcome → ℕ
next_of (goes left next) = next
next_of (stops held because) = 0

-- A law of steps: they alter the drum words that their instruction writes, and no others, nor the programmed switch.
use Rattle.std.specs.Prelude.{◌≡◌, ◌≢◌, ℕ, suc, zero, ◌+◌, ◌<◌, Bool, true, if◌then◌else◌, nat_lt, List, [], ◌∷◌}
use Rattle.std.specs.Prelude.{length, set, slice_get, slice_set, Option, Some, ◌+ℤ◌, Contains}
use Rattle.std.proofs.Common.{refl, ap, sym, ◌∙◌, subst, arith}
use Rattle.std.specs.List.{range_with_len}
use Rattle.base_words.specs.declared.op.Op.{Op}
use Rattle.base_words.specs.declared.op.Op.TheVariants.{NoOperation, Stop, Add, ResetAdd, Divide, DivideReset, Multiply}
use Rattle.base_words.specs.declared.op.Op.TheVariants.{Store, Shift, Branch, LoadDistributor, Read, Punch}
use Rattle.base_words.specs.declared.op.Op.TheVariants.{BranchOnDigit}
use Rattle.base_words.specs.declared.op.branch.Branch as branches
use Rattle.base_words.specs.declared.op.branch.Branch.TheVariants as branch
use Rattle.base_words.specs.declared.word.Word.{Word}
use Rattle.base_words.specs.Op.{operand_of, is_operand}
use Rattle.base_words.specs.Word.{number_in}
use Rattle.base_notes.specs.declared.entry.Entry.{Entry}
use Rattle.machine_steps.specs.declared.card.Card.{Card}
use Rattle.machine_steps.specs.Contents.{Contents, word_at}
use Rattle.machine_steps.specs.Effect.{effect, with_words, band, reads, takes, after_test, digit_at, is_too_large}
use Rattle.machine_steps.specs.Effect.{amount_of, product}
use Rattle.machine_steps.proofs.Going.{left_by, left_if, keeps_left, division_left, digit_left, step_leaves}
use Rattle.machine_steps.specs.Step.{State, contents_after, step, instruction_in}
use Rattle.machine_steps.specs.Writes.{written_by, writes_with, writes}

-- a word that is put in one place leaves the others
put_elsewhere : (words : List Word) (at place : ℕ) (w : Word) → place ≢ at
    → slice_get (set words at w) place ≡ slice_get words place
put_elsewhere [] at place w other = refl
put_elsewhere (x ∷ words) zero zero w other = absurd (other refl)
put_elsewhere (x ∷ words) zero (suc place) w other = refl
put_elsewhere (x ∷ words) (suc at) zero w other = refl
put_elsewhere (x ∷ words) (suc at) (suc place) w other = put_elsewhere words at place w (λ same. other (ap suc same))

words_elsewhere : (ws drum : List Word) (at place : ℕ) → ((k : ℕ) → k < length ws → place ≢ at + k)
    → slice_get (with_words drum at ws) place ≡ slice_get drum place
words_elsewhere [] drum at place other = refl
words_elsewhere (w ∷ ws) drum at place other =
    words_elsewhere ws (slice_set drum at w) (at + 1) place
    (λ k below same. other (suc k) (omega arith) (omega (arith, same)))
    ∙ put_elsewhere drum at place w (λ same. other 0 (omega arith) (omega (arith, same)))

range_has : (from count k : ℕ) → k < count → Contains (range_with_len from count) (from + k)
range_has from zero k below = absurd (omega (arith, below))
range_has from (suc count) zero below = (0, omega arith, omega arith)
range_has from (suc count) (suc k) below =
    let rest = range_has (from + 1) count k (omega (arith, below)) in
    let here : from + 1 + k ≡ from + suc k = omega arith in
    subst (λ (n : ℕ). Contains (from ∷ range_with_len (from + 1) count) n) here
    (suc rest.0, omega (arith, rest.1), rest.2)

-- the effect alters nothing at a place that its operation doesn't write
module _ (place : ℕ) where
  abbrev Keeps : Contents → Contents → Type 0
  Keeps c after = slice_get after.drum place ≡ slice_get c.drum place

  read_keeps : (c : Contents) (cards : List Card) (d i : ℕ) → ¬ Contains (range_with_len (band d + 1) 10) place
      → Keeps c (left_by (reads c cards d i))
  read_keeps c [] d i free = refl
  read_keeps c (card ∷ cards) d i free =
      words_elsewhere card.words c.drum (band d + 1) place
      (λ k below same. free (subst (Contains (range_with_len (band d + 1) 10)) (sym same)
      (range_has (band d + 1) 10 k (omega (arith, below, card.ten)))))

  wanted_free : (op : Op) (d : ℕ) → nat_lt d 2000 ≡ true → ¬ Contains (writes_with (Some op) d) place
      → ¬ Contains (written_by op d) place
  wanted_free op d wanted free = subst (λ (b : Bool). ¬ Contains (if b then written_by op d else []) place) wanted free

  test_keeps : (b : branches.Branch) (c : Contents) → Keeps c (after_test b c)
  test_keeps branch.UpperNonZero c = refl
  test_keeps branch.NonZero c = refl
  test_keeps branch.Minus c = refl
  test_keeps branch.Overflow c = refl

  effect_keeps : (c : Contents) (op : Op) (d i : ℕ) → is_operand (operand_of op) d ≡ true
      → ¬ Contains (writes_with (Some op) d) place → Keeps c (left_by (effect c op d i))
  effect_keeps c NoOperation d i wanted free = refl
  effect_keeps c Stop d i wanted free = left_if (Keeps c) c.programmed_stops _ _ refl refl
  effect_keeps c (Add a) d i wanted free =
      keeps_left (Keeps c) (takes c (word_at c d)) (c.accumulator +ℤ amount_of a (number_in (word_at c d))) i refl
      (λ _. refl)
  effect_keeps c (ResetAdd a) d i wanted free = refl
  effect_keeps c Divide d i wanted free =
      division_left (Keeps c) (is_too_large c.accumulator (number_in (word_at c d))) _ _ i refl (λ _. refl)
  effect_keeps c DivideReset d i wanted free =
      division_left (Keeps c) (is_too_large c.accumulator (number_in (word_at c d))) _ _ i refl (λ _. refl)
  effect_keeps c Multiply d i wanted free =
      keeps_left (Keeps c) (takes c (word_at c d)) (product c.accumulator (number_in (word_at c d))) i refl (λ _. refl)
  effect_keeps c (Store s) d i wanted free =
      put_elsewhere c.drum d place _ (λ same. wanted_free (Store s) d wanted free (0, omega arith, sym same))
  effect_keeps c (Shift s) d i wanted free = refl
  effect_keeps c (Branch b) d i wanted free = test_keeps b c
  effect_keeps c LoadDistributor d i wanted free = refl
  effect_keeps c Read d i wanted free = read_keeps c c.cards d i (wanted_free Read d wanted free)
  effect_keeps c Punch d i wanted free = refl
  effect_keeps c (BranchOnDigit p) d i wanted free = digit_left (Keeps c) c (digit_at p c.distributor) d i refl

-- A step alters no drum word but those that its instruction writes.
pub writes_no_other : (times : Op → Entry) (s : State) (wait place : ℕ) → ¬ Contains (writes (instruction_in s)) place
    → slice_get (contents_after (step times s wait)).drum place ≡ slice_get s.contents.drum place
writes_no_other times s wait place free =
    step_leaves (λ after. slice_get after.drum place ≡ slice_get s.contents.drum place) times s wait refl
    (λ op is wanted. effect_keeps place s.contents op (instruction_in s).d (instruction_in s).i wanted
    (subst (λ (o : Option Op). ¬ Contains (writes_with o (instruction_in s).d) place) is free))

abbrev SameSwitch : Contents → Contents → Type 0
SameSwitch c after = after.programmed_stops ≡ c.programmed_stops

test_switch : (b : branches.Branch) (c : Contents) → SameSwitch c (after_test b c)
test_switch branch.UpperNonZero c = refl
test_switch branch.NonZero c = refl
test_switch branch.Minus c = refl
test_switch branch.Overflow c = refl

read_switch : (c : Contents) (cards : List Card) (d i : ℕ) → SameSwitch c (left_by (reads c cards d i))
read_switch c [] d i = refl
read_switch c (card ∷ cards) d i = refl

effect_switch : (c : Contents) (op : Op) (d i : ℕ) → SameSwitch c (left_by (effect c op d i))
effect_switch c NoOperation d i = refl
effect_switch c Stop d i = left_if (SameSwitch c) c.programmed_stops _ _ refl refl
effect_switch c (Add a) d i =
    keeps_left (SameSwitch c) (takes c (word_at c d)) (c.accumulator +ℤ amount_of a (number_in (word_at c d))) i refl
    (λ _. refl)
effect_switch c (ResetAdd a) d i = refl
effect_switch c Divide d i =
    division_left (SameSwitch c) (is_too_large c.accumulator (number_in (word_at c d))) _ _ i refl (λ _. refl)
effect_switch c DivideReset d i =
    division_left (SameSwitch c) (is_too_large c.accumulator (number_in (word_at c d))) _ _ i refl (λ _. refl)
effect_switch c Multiply d i =
    keeps_left (SameSwitch c) (takes c (word_at c d)) (product c.accumulator (number_in (word_at c d))) i refl
    (λ _. refl)
effect_switch c (Store s) d i = refl
effect_switch c (Shift s) d i = refl
effect_switch c (Branch b) d i = test_switch b c
effect_switch c LoadDistributor d i = refl
effect_switch c Read d i = read_switch c c.cards d i
effect_switch c Punch d i = refl
effect_switch c (BranchOnDigit p) d i = digit_left (SameSwitch c) c (digit_at p c.distributor) d i refl

-- No step turns the programmed switch.
pub leaves_switch : (times : Op → Entry) (s : State) (wait : ℕ)
    → (contents_after (step times s wait)).programmed_stops ≡ s.contents.programmed_stops
leaves_switch times s wait =
    step_leaves (SameSwitch s.contents) times s wait refl
    (λ op is wanted. effect_switch s.contents op (instruction_in s).d (instruction_in s).i)

-- A step leaves whole contents whole.
use Rattle.std.specs.Prelude.{◌≡◌, ℕ, zero, suc, ◌+◌, ◌-◌, ◌*◌, ◌/◌, ◌%◌, ◌^◌, ◌==◌, ◌<◌, ◌≤◌, Bool, true, false}
use Rattle.std.specs.Prelude.{if◌then◌else◌, List, [], ◌∷◌, length, ℤ, pos, negsuc, neg_ℤ, ◌+ℤ◌, ◌*ℤ◌, unsigned_abs}
use Rattle.std.specs.Prelude.{slice_set}
use Rattle.std.proofs.Common.{refl, ap, ◌∙◌, arith}
use Rattle.std.proofs.Math.ListN.{length-set}
use Rattle.std.proofs.Math.Nat.{one-le-pow, pow-suc, div-le_self, div-lt_iff_lt-mul}
use Rattle.std.proofs.lemmas.Bool.{leb-false, eqb-false}
use Rattle.std.proofs.lemmas.Int.{unsigned_abs-mul}
use Rattle.base_words.specs.declared.op.Op.{Op}
use Rattle.base_words.specs.declared.op.Op.TheVariants.{NoOperation, Stop, Add, ResetAdd, Divide, DivideReset, Multiply}
use Rattle.base_words.specs.declared.op.Op.TheVariants.{Store, Shift, Branch, LoadDistributor, Read, Punch}
use Rattle.base_words.specs.declared.op.Op.TheVariants.{BranchOnDigit}
use Rattle.base_words.specs.declared.op.amount.Amount as amounts
use Rattle.base_words.specs.declared.op.amount.Amount.TheVariants as amount
use Rattle.base_words.specs.declared.op.branch.Branch as branches
use Rattle.base_words.specs.declared.op.branch.Branch.TheVariants as branch
use Rattle.base_words.specs.declared.op.shift.Shift as shifts
use Rattle.base_words.specs.declared.op.shift.Shift.TheVariants as shift
use Rattle.base_words.specs.declared.word.Word.{Word}
use Rattle.base_words.specs.Word.{signed, number_in}
use Rattle.base_notes.specs.declared.entry.Entry.{Entry}
use Rattle.machine_steps.specs.declared.card.Card.{Card}
use Rattle.machine_steps.specs.Contents.{Contents, is_minus, upper, word_at}
use Rattle.machine_steps.specs.Effect.{effect, takes, keeps, with_words, band, reads, amount_of, product, quotient, rest}
use Rattle.machine_steps.specs.Effect.{is_too_large, places, shifted, after_test, digit_at, differ}
use Rattle.machine_steps.proofs.Going.{left_by, left_if, keeps_left, division_left, digit_left, step_leaves}
use Rattle.machine_steps.specs.Run.{IsWhole}
use Rattle.machine_steps.specs.Step.{State, contents_after, step, instruction_in}

abs_neg : (z : ℤ) → unsigned_abs (neg_ℤ z) ≡ unsigned_abs z
abs_neg (pos zero) = refl
abs_neg (pos (suc n)) = refl
abs_neg (negsuc n) = refl

abs_signed : (minus : Bool) (n : ℕ) → unsigned_abs (signed minus n) ≡ n
abs_signed true n = abs_neg (pos n)
abs_signed false n = refl

abs_number : (w : Word) → unsigned_abs (number_in w) < 10 ^ 10
abs_number w = omega (arith, abs_signed w.minus w.digits, w.ten)

signed_below : (minus : Bool) (n : ℕ) → n < 10 ^ 20 → unsigned_abs (signed minus n) < 10 ^ 20
signed_below minus n below = omega (arith, abs_signed minus n, below)

-- an amount has twenty digits
upper_below : (v : ℤ) → unsigned_abs v < 10 ^ 10 → unsigned_abs (v *ℤ pos (10 ^ 10)) < 10 ^ 20
upper_below v half = omega (arith, unsigned_abs-mul v (pos (10 ^ 10)), half)

amount_below : (a : amounts.Amount) (v : ℤ) → unsigned_abs v < 10 ^ 10 → unsigned_abs (amount_of a v) < 10 ^ 20
amount_below amount.Upper v half = upper_below v half
amount_below amount.MinusUpper v half = omega (arith, abs_neg (v *ℤ pos (10 ^ 10)), upper_below v half)
amount_below amount.Lower v half = omega (arith, half)
amount_below amount.MinusLower v half = omega (arith, abs_neg v, half)
amount_below amount.AbsoluteLower v half = omega (arith, half)
amount_below amount.MinusAbsoluteLower v half = omega (arith, abs_neg (pos (unsigned_abs v)), half)

-- a remainder and a quotient have ten digits each
quotient_below : (size by : ℕ) → size / 10 ^ 10 < by → size / by < 10 ^ 10
quotient_below size by above = (div-lt_iff_lt-mul {k = by} {x = size} {y = 10 ^ 10} (omega arith)).1 (omega arith)

division_below : (size by : ℕ) → size / 10 ^ 10 < by → by < 10 ^ 10 → size % by * 10 ^ 10 + size / by < 10 ^ 20
division_below size by above half =
    let left : size % by < by = omega (arith, above) in
    omega (arith, quotient_below size by above, left, half)

-- so has what a shift leaves of twenty digits
rounding_places : (d : ℕ) → 1 ≤ places shift.Round d
rounding_places d = go (d % 10 == 0) (λ none. eqb-false (d % 10) 0 none)
  where
    go : (b : Bool) → (b ≡ false → ¬ (d % 10 ≡ 0)) → 1 ≤ (if b then 10 else d % 10)
    go true some = omega arith
    go false some = let other : ¬ (d % 10 ≡ 0) = some refl in omega arith

rounded_below : (n size : ℕ) → 1 ≤ n → size < 10 ^ 20 → (size + 5 * 10 ^ (n - 1)) / 10 ^ n < 10 ^ 20
rounded_below n size some below =
    let count : n ≡ suc (n - 1) = omega arith in
    let least : 1 ≤ 10 ^ (n - 1) = one-le-pow (n - 1) 10 (omega arith) in
    let more : 10 ^ n ≡ 10 ^ (n - 1) * 10 = ap (λ (k : ℕ). 10 ^ k) count ∙ pow-suc 10 (n - 1) in
    (div-lt_iff_lt-mul {k = 10 ^ n} {x = size + 5 * 10 ^ (n - 1)} {y = 10 ^ 20} (omega (arith, least, more))).1
    (omega (arith, least, more, below))

shifted_below : (s : shifts.Shift) (d size : ℕ) → size < 10 ^ 20 → shifted s (places s d) size < 10 ^ 20
shifted_below shift.Right d size below = omega (arith, div-le_self size (10 ^ (d % 10)), below)
shifted_below shift.Round d size below = rounded_below (places shift.Round d) size (rounding_places d) below
shifted_below shift.Left d size below = omega arith

-- words that are put on the drum leave its length
words_length : (drum : List Word) (at : ℕ) (ws : List Word) → length (with_words drum at ws) ≡ length drum
words_length drum at [] = refl
words_length drum at (w ∷ ws) = words_length (slice_set drum at w) (at + 1) ws ∙ length-set drum at w

keeps_whole : (c : Contents) (z : ℤ) (next : ℕ) → length c.drum ≡ 2000 → IsWhole (left_by (keeps c z next))
keeps_whole c z next drum =
    keeps_left IsWhole c z next
    (record { drum = drum; accumulator = signed_below (is_minus z) (unsigned_abs z % 10 ^ 20) (omega arith) })
    (λ small. record { drum = drum; accumulator = leb-false (10 ^ 20) (unsigned_abs z) small })

test_whole : (b : branches.Branch) (c : Contents) → IsWhole c → IsWhole (after_test b c)
test_whole branch.UpperNonZero c whole = whole
test_whole branch.NonZero c whole = whole
test_whole branch.Minus c whole = whole
test_whole branch.Overflow c whole = record { drum = whole.drum; accumulator = whole.accumulator }

reads_whole : (c : Contents) (cards : List Card) (d i : ℕ) → IsWhole c → IsWhole (left_by (reads c cards d i))
reads_whole c [] d i whole = whole
reads_whole c (card ∷ cards) d i whole =
    record { drum = words_length c.drum (band d + 1) card.words ∙ whole.drum; accumulator = whole.accumulator }

effect_whole : (c : Contents) (op : Op) (d i : ℕ) → IsWhole c → IsWhole (left_by (effect c op d i))
effect_whole c NoOperation d i whole = whole
effect_whole c Stop d i whole = left_if IsWhole c.programmed_stops _ _ whole whole
effect_whole c (Add a) d i whole =
    keeps_whole (takes c (word_at c d)) (c.accumulator +ℤ amount_of a (number_in (word_at c d))) i whole.drum
effect_whole c (ResetAdd a) d i whole =
    record { drum = whole.drum; accumulator = amount_below a (number_in (word_at c d)) (abs_number (word_at c d)) }
effect_whole c Divide d i whole =
    let v : ℤ = number_in (word_at c d) in
    division_left IsWhole (is_too_large c.accumulator v) _ _ i
    (record { drum = whole.drum; accumulator = whole.accumulator })
    (λ small. record {
      drum = whole.drum;
      accumulator =
          signed_below (differ c.accumulator v) (rest c.accumulator v * 10 ^ 10 + quotient c.accumulator v)
          (division_below (unsigned_abs c.accumulator) (unsigned_abs v)
          (leb-false (unsigned_abs v) (upper c.accumulator) small) (abs_number (word_at c d)));
    })
effect_whole c DivideReset d i whole =
    let v : ℤ = number_in (word_at c d) in
    division_left IsWhole (is_too_large c.accumulator v) _ _ i
    (record { drum = whole.drum; accumulator = whole.accumulator })
    (λ small. record {
      drum = whole.drum;
      accumulator =
          let short : quotient c.accumulator v < 10 ^ 10 =
          quotient_below (unsigned_abs c.accumulator) (unsigned_abs v)
          (leb-false (unsigned_abs v) (upper c.accumulator) small) in
          signed_below (differ c.accumulator v) (quotient c.accumulator v) (omega (arith, short));
    })
effect_whole c Multiply d i whole =
    keeps_whole (takes c (word_at c d)) (product c.accumulator (number_in (word_at c d))) i whole.drum
effect_whole c (Store s) d i whole =
    record { drum = length-set c.drum d _ ∙ whole.drum; accumulator = whole.accumulator }
effect_whole c (Shift s) d i whole = record {
  drum = whole.drum;
  accumulator =
      signed_below (is_minus c.accumulator) (shifted s (places s d) (unsigned_abs c.accumulator))
      (shifted_below s d (unsigned_abs c.accumulator) whole.accumulator);
}
effect_whole c (Branch b) d i whole = test_whole b c whole
effect_whole c LoadDistributor d i whole = record { drum = whole.drum; accumulator = whole.accumulator }
effect_whole c Read d i whole = reads_whole c c.cards d i whole
effect_whole c Punch d i whole = whole
effect_whole c (BranchOnDigit p) d i whole = digit_left IsWhole c (digit_at p c.distributor) d i whole

-- The drum keeps its words, and the accumulator its twenty digits.
pub step_whole : (times : Op → Entry) (s : State) (wait : ℕ) → IsWhole s.contents
    → IsWhole (contents_after (step times s wait))
step_whole times s wait whole =
    step_leaves IsWhole times s wait whole
    (λ op is wanted. effect_whole s.contents op (instruction_in s).d (instruction_in s).i whole)

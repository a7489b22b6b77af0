-- Definitions evaluated, with answers that were worked out apart from them: what the operations do.
use Rattle.std.proofs.Common.{◌≡◌, ℕ, ◌*◌, true, false, Some, None, List, [], ◌∷◌, map, refl, ℤ, pos, negsuc, replicate}
use Rattle.std.proofs.Common.{◌++◌}
use Rattle.std.specs.Prelude.{slice_set}
use Rattle.base_words.specs.declared.op.Op.{Op}
use Rattle.base_words.specs.declared.op.Op.TheVariants.{NoOperation, Stop, Add, ResetAdd, Divide, DivideReset, Multiply}
use Rattle.base_words.specs.declared.op.Op.TheVariants.{Store, Shift, Branch, LoadDistributor, Read, Punch}
use Rattle.base_words.specs.declared.op.Op.TheVariants.{BranchOnDigit}
use Rattle.base_words.specs.declared.op.amount.Amount.TheVariants.{Upper, MinusUpper, Lower, MinusLower, AbsoluteLower}
use Rattle.base_words.specs.declared.op.amount.Amount.TheVariants.{MinusAbsoluteLower}
use Rattle.base_words.specs.declared.op.branch.Branch.TheVariants as branch
use Rattle.base_words.specs.declared.op.position.Position.TheVariants as position
use Rattle.base_words.specs.declared.op.shift.Shift.TheVariants as shift
use Rattle.base_words.specs.declared.op.store.Store.TheVariants as store
use Rattle.base_words.specs.declared.word.Word.{Word}
use Rattle.base_words.specs.Word.{word}
use Rattle.machine_steps.specs.declared.card.Card.{Card}
use Rattle.machine_steps.specs.declared.why.Why.TheVariants as why
use Rattle.machine_steps.specs.Contents.{Contents, lower_word, upper_word}
use Rattle.machine_steps.specs.Effect.{goes, stops, effect, punched}
use Rattle.machine_steps.proofs.Going.{left_by}
use Rattle.proved_laws.proofs.SmallMachine.{state, zero_word, word_in, next_of}

-- a machine with this word at 0103, this distributor and this accumulator
abbrev holding : Word → Word → ℤ → Contents
holding w distributor a = (state zero_word w distributor a true).contents

-- 00 does nothing; 01 stops with the programmed switch at STOP, and does nothing at RUN
abbrev resting : Contents
resting = holding zero_word (word true 9) (negsuc 4)

no_operation : effect resting NoOperation 103 106 ≡ goes resting 106
no_operation = refl

programmed : (effect resting Stop 103 106 ≡ stops resting why.Programmed)
    × (effect (record resting { programmed_stops = false }) Stop 103 106
    ≡ goes (record resting { programmed_stops = false }) 106)
programmed = (refl, refl)

-- the accumulator after each operation, on 3 and -7
abbrev sums : List Op → List ℤ
sums ops = map (λ op. (left_by (effect (holding (word true 7) zero_word (pos 3)) op 103 106)).accumulator) ops

added : sums (Add Upper ∷ Add MinusUpper ∷ Add Lower ∷ Add MinusLower ∷ Add AbsoluteLower ∷ Add MinusAbsoluteLower ∷ [])
    ≡ negsuc 69999999996 ∷ pos 70000000003 ∷ negsuc 3 ∷ pos 10 ∷ pos 10 ∷ negsuc 3 ∷ []
added = refl

reset_and_added : sums (ResetAdd Upper ∷ ResetAdd MinusUpper ∷ ResetAdd Lower ∷ ResetAdd MinusLower
    ∷ ResetAdd AbsoluteLower ∷ ResetAdd MinusAbsoluteLower ∷ [])
    ≡ negsuc 69999999999 ∷ pos 70000000000 ∷ negsuc 6 ∷ pos 7 ∷ pos 7 ∷ negsuc 6 ∷ []
reset_and_added = refl

-- the upper half, 3, by -4, and to it the lower half, 2, ten places up
abbrev multiplying : Contents
multiplying = holding (word true 4) zero_word (pos 30000000002)

multiplied : effect multiplying Multiply 103 106
    ≡ goes (record multiplying { distributor = word true 4; accumulator = negsuc 20000000011 }) 106
multiplied = refl

-- -17 by -5: 3, and 2 is left; the remainder's sign is the dividend's, where the remainder is kept
abbrev dividing : Contents
dividing = holding (word true 5) zero_word (negsuc 16)

divided : (effect dividing Divide 103 106
    ≡ goes (record dividing { distributor = word true 5; accumulator = pos 20000000003; remainder = Some true }) 106)
    × (effect dividing DivideReset 103 106
    ≡ goes (record dividing { distributor = word true 5; accumulator = pos 3 }) 106)
divided = (refl, refl)

-- A quotient of more than ten digits: the latch goes on and the divisor into the distributor; the accumulator and the
-- remainder's sign stay.
abbrev too_large : Contents
too_large = record (holding (word true 3) zero_word (pos 30000000001)) { remainder = Some true }

quotient_stops : (effect too_large Divide 103 106
    ≡ stops (record too_large { distributor = word true 3; latch = true }) why.Quotient)
    × (effect too_large DivideReset 103 106
    ≡ stops (record too_large { distributor = word true 3; latch = true }) why.Quotient)
quotient_stops = (refl, refl)

abbrev by_zero : Contents
by_zero = holding (word true 0) zero_word (pos 5)

zero_stops : effect by_zero Divide 103 106
    ≡ stops (record by_zero { distributor = word true 0; latch = true }) why.Quotient
zero_stops = refl

-- An overflow: twenty digits are kept, the latch goes on and no remainder's sign stands, whether the machine stops or
-- goes on.
abbrev overflowing : Contents
overflowing = record (holding (word false 2) zero_word (pos 99999999990000000007)) { remainder = Some true }

abbrev overflowed : Contents
overflowed =
    record overflowing { distributor = word false 2; accumulator = pos 10000000007; remainder = None; latch = true }

overflow_stops : (effect overflowing (Add Upper) 103 106 ≡ stops overflowed why.Overflow)
    × (effect (record overflowing { overflow_stops = false }) (Add Upper) 103 106
    ≡ goes (record overflowed { overflow_stops = false }) 106)
overflow_stops = (refl, refl)

abbrev product_overflowing : Contents
product_overflowing = holding (word true 9999999999) zero_word (pos 99999999999999999999)

product_overflows : effect product_overflowing Multiply 103 106
    ≡ stops (record product_overflowing
    { distributor = word true 9999999999; accumulator = negsuc 99999999970000000000; latch = true }) why.Overflow
product_overflows = refl

-- what each store puts at 0103, of an accumulator of -5 and 6 and a distributor of 9
abbrev puts : List Op → List Word
puts ops =
    map (λ op. word_in (left_by (effect (holding zero_word (word false 9) (negsuc 50000000005)) op 103 106)) 103) ops

stored : puts (Store store.Lower ∷ Store store.Upper ∷ Store store.Distributor ∷ []) ≡ word true 6 ∷ word true 5
    ∷ word false 9 ∷ []
stored = refl

-- positions 8 to 5, and 4 to 1, of the lower half go into the distributor too
abbrev addressed : Contents
addressed = holding zero_word (word true 1234567890) (pos 9876543210)

addresses_stored :
    (effect addressed (Store store.DataAddress) 103 106
    ≡ goes (record addressed
    { drum = slice_set addressed.drum 103 (word true 1276547890); distributor = word true 1276547890 }) 106)
    × (effect addressed (Store store.InstructionAddress) 103 106
    ≡ goes (record addressed
    { drum = slice_set addressed.drum 103 (word true 1234563210); distributor = word true 1234563210 }) 106)
addresses_stored = (refl, refl)

-- minus zero is a word of its own, and 0 as a number
minus_zero : (left_by (effect (holding (word true 0) zero_word (pos 3)) LoadDistributor 103 106)).distributor
    ≡ word true 0
minus_zero = refl

minus_zero_added : (left_by (effect (holding (word true 0) zero_word (pos 3)) (Add Lower) 103 106)).accumulator ≡ pos 3
minus_zero_added = refl

abbrev shifted : Op → ℕ → ℤ → ℤ
shifted op d a = (left_by (effect (holding zero_word zero_word a) op d 106)).accumulator

shifts : (shifted (Shift shift.Right) 2 (pos 12345) ≡ pos 123)
    × (shifted (Shift shift.Left) 11 (negsuc 12344) ≡ negsuc 123449)
    × (shifted (Shift shift.Left) 1 (pos 50000000000000000000) ≡ pos 0)
    × (shifted (Shift shift.Round) 1 (pos 15) ≡ pos 2) × (shifted (Shift shift.Round) 2 (pos 149) ≡ pos 1)
    × (shifted (Shift shift.Round) 0 (negsuc 4999999999) ≡ negsuc 0)
shifts = (refl, refl, refl, refl, refl, refl)

abbrev next : Op → ℤ → Word → ℕ
next op a distributor = next_of (effect (holding zero_word distributor a) op 103 106)

nexts : (next NoOperation (pos 0) zero_word ≡ 106)
    × (next (Branch branch.UpperNonZero) (pos 9999999999) zero_word ≡ 106)
    × (next (Branch branch.UpperNonZero) (pos 10000000000) zero_word ≡ 103)
    × (next (Branch branch.NonZero) (pos 0) zero_word ≡ 106) × (next (Branch branch.NonZero) (pos 1) zero_word ≡ 103)
    × (next (Branch branch.Minus) (negsuc 0) zero_word ≡ 103) × (next (Branch branch.Minus) (pos 0) zero_word ≡ 106)
    × (next (Branch branch.Overflow) (pos 0) zero_word ≡ 106)
nexts = (refl, refl, refl, refl, refl, refl, refl, refl)

-- where 91 to 99 and 90 go on, each with this digit at its position of a distributor of zeros; 0 where they stop
abbrev by_digit : ℕ → List ℕ
by_digit digit =
    next (BranchOnDigit position.First) (pos 0) (word false digit)
    ∷ next (BranchOnDigit position.Second) (pos 0) (word false (digit * 10))
    ∷ next (BranchOnDigit position.Third) (pos 0) (word false (digit * 100))
    ∷ next (BranchOnDigit position.Fourth) (pos 0) (word false (digit * 1000))
    ∷ next (BranchOnDigit position.Fifth) (pos 0) (word false (digit * 10000))
    ∷ next (BranchOnDigit position.Sixth) (pos 0) (word false (digit * 100000))
    ∷ next (BranchOnDigit position.Seventh) (pos 0) (word false (digit * 1000000))
    ∷ next (BranchOnDigit position.Eighth) (pos 0) (word false (digit * 10000000))
    ∷ next (BranchOnDigit position.Ninth) (pos 0) (word false (digit * 100000000))
    ∷ next (BranchOnDigit position.Tenth) (pos 0) (word false (digit * 1000000000))
    ∷ []

digits : (by_digit 8 ≡ replicate 10 103) × (by_digit 9 ≡ replicate 10 106) × (by_digit 7 ≡ replicate 10 0)
digits = (refl, refl, refl)

digit_goes : effect resting (BranchOnDigit position.First) 103 107 ≡ goes resting 107
digit_goes = refl

digit_stops : effect resting (BranchOnDigit position.Second) 103 107 ≡ stops resting why.Digit
digit_stops = refl

-- the latch sends a branch to D, and goes off
abbrev latched : Contents
latched = record (holding zero_word zero_word (pos 0)) { latch = true }

branched_on_overflow : effect latched (Branch branch.Overflow) 103 106 ≡ goes (record latched { latch = false }) 103
branched_on_overflow = refl

-- a load card goes into words 01 to 10 of D's band, and on at D
abbrev card : Card
card = record { words = replicate 10 (word false 5); load = true; ten = refl }

abbrev carded : Contents
carded = record (holding zero_word zero_word (pos 0)) { cards = card ∷ [] }

read : (next_of (effect carded Read 149 106) ≡ 149) × (word_in (left_by (effect carded Read 149 106)) 100 ≡ zero_word)
    × (word_in (left_by (effect carded Read 149 106)) 101 ≡ word false 5)
    × (word_in (left_by (effect carded Read 149 106)) 110 ≡ word false 5)
    × (word_in (left_by (effect carded Read 149 106)) 111 ≡ zero_word)
    × ((left_by (effect carded Read 149 106)).cards ≡ [])
read = (refl, refl, refl, refl, refl, refl)

-- another card goes on at I; with no card left it stops, and nothing changes
abbrev carded_plainly : Contents
carded_plainly = record carded { cards = record card { load = false } ∷ [] }

read_on : next_of (effect carded_plainly Read 149 106) ≡ 106
read_on = refl

no_card : effect resting Read 149 106 ≡ stops resting why.Card
no_card = refl

-- the words 27 to 36 of the band that begins at 0100 are punched, and nothing changes
abbrev banded : Contents
banded = record carded { drum = slice_set (slice_set carded.drum 127 (word false 27)) 136 (word true 36) }

punches : (punched banded 149 ≡ word false 27 ∷ replicate 8 zero_word ++ word true 36 ∷ [])
    × (effect carded Punch 103 106 ≡ goes carded 106)
punches = (refl, refl)

-- after a division the upper half has the dividend's sign, until the accumulator next changes
abbrev remaining : Contents
remaining = left_by (effect (holding (word true 5) zero_word (negsuc 16)) Divide 103 106)

remainder_sign : (upper_word remaining ≡ word true 2) × (lower_word remaining ≡ word false 3)
    × (upper_word (left_by (effect remaining (Add Lower) 103 106)) ≡ word false 1)
remainder_sign = (refl, refl, refl)

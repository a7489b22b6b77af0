-- What an instruction does (IBM 650 Manual of Operation). This project's choices are: that 0 is
-- plus, also as the number of minus zero; what the accumulator holds after an overflow; that a
-- stored word is also in the distributor; that a product adds the lower half; that 31 with digit 0
-- shifts by ten places; that a left shift is no overflow; that 47 turns the latch off; that at a
-- quotient stop the latch is on and the divisor in the distributor, and the accumulator and the
-- remainder's sign stay; and that an overflow leaves the same whether or not the machine stops.
use Rattle.std.specs.Prelude.{ℕ, ◌+◌, ◌-◌, ◌*◌, ◌/◌, ◌%◌, ◌^◌, ◌==◌, Bool, true, false, not}
use Rattle.std.specs.Prelude.{if◌then◌else◌, nat_le, List, [], ◌∷◌, Some, None, ℤ, pos, neg_ℤ, ◌+ℤ◌}
use Rattle.std.specs.Prelude.{◌*ℤ◌, unsigned_abs, slice_set, slice_range}
use Rattle.base_words.specs.declared.op.Op.{Op}
use Rattle.base_words.specs.declared.op.Op.TheVariants.{NoOperation, Stop, Add, ResetAdd, Divide}
use Rattle.base_words.specs.declared.op.Op.TheVariants.{DivideReset, Multiply, Store, Shift, Branch}
use Rattle.base_words.specs.declared.op.Op.TheVariants.{LoadDistributor, Read, Punch, BranchOnDigit}
use Rattle.base_words.specs.declared.op.amount.Amount as amounts
use Rattle.base_words.specs.declared.op.amount.Amount.TheVariants as amount
use Rattle.base_words.specs.declared.op.branch.Branch as branches
use Rattle.base_words.specs.declared.op.branch.Branch.TheVariants as branch
use Rattle.base_words.specs.declared.op.position.Position as positions
use Rattle.base_words.specs.declared.op.position.Position.TheVariants as position
use Rattle.base_words.specs.declared.op.shift.Shift as shifts
use Rattle.base_words.specs.declared.op.shift.Shift.TheVariants as shift
use Rattle.base_words.specs.declared.op.store.Store as stores
use Rattle.base_words.specs.declared.op.store.Store.TheVariants as store
use Rattle.base_words.specs.declared.word.Word.{Word}
use Rattle.base_words.specs.Word.{word, signed, number_in}
use Rattle.machine_steps.specs.declared.card.Card.{Card}
use Rattle.machine_steps.specs.declared.why.Why as whys
use Rattle.machine_steps.specs.declared.why.Why.TheVariants as why
use Rattle.machine_steps.specs.Contents.{Contents, is_minus, upper, lower, lower_word, upper_word}
use Rattle.machine_steps.specs.Contents.{word_at}

-- An instruction leaves new contents, and the number of the next location or why it stops.
pub data Outcome : Type 0 where
  goes : Contents → ℕ → Outcome
  stops : Contents → whys.Why → Outcome

-- the distributor takes a word
abbrev pub takes : Contents → Word → Contents
takes c w = record c { distributor = w }

-- the accumulator becomes a number, and no remainder's sign stands
abbrev pub becomes : Contents → ℤ → Contents
becomes c z = record c { accumulator = z; remainder = None }

-- the accumulator becomes what twenty digits hold of a number that has more, and the latch goes on
abbrev pub overflows : Contents → ℤ → Contents
overflows c z = record (becomes c (signed (is_minus z) (unsigned_abs z % 10 ^ 20))) { latch = true }

-- The accumulator becomes a number. Where more than twenty digits are wanted, that is an overflow,
-- after which the machine stops if the overflow switch is at STOP.
abbrev pub keeps : Contents → ℤ → ℕ → Outcome
keeps c z next =
    if nat_le (10 ^ 20) (unsigned_abs z) then
    (if c.overflow_stops then stops (overflows c z) why.Overflow else goes (overflows c z) next)
    else goes (becomes c z) next

-- a word goes into a drum location and into the distributor
abbrev pub puts : Contents → ℕ → Word → Contents
puts c at w = record c { drum = slice_set c.drum at w; distributor = w }

-- words go into consecutive drum locations
abbrev pub with_words : List Word → ℕ → List Word → List Word
with_words drum at [] = drum
with_words drum at (w ∷ ws) = with_words (slice_set drum at w) (at + 1) ws

-- the first location of the band that a drum location lies in
abbrev pub band : ℕ → ℕ
band d = 50 * (d / 50)

-- what is added, of the number at D
abbrev pub amount_of : amounts.Amount → ℤ → ℤ
amount_of amount.Upper v = v *ℤ pos (10 ^ 10)
amount_of amount.MinusUpper v = neg_ℤ (v *ℤ pos (10 ^ 10))
amount_of amount.Lower v = v
amount_of amount.MinusLower v = neg_ℤ v
amount_of amount.AbsoluteLower v = pos (unsigned_abs v)
amount_of amount.MinusAbsoluteLower v = neg_ℤ (pos (unsigned_abs v))

-- the two numbers have different signs
abbrev pub differ : ℤ → ℤ → Bool
differ a v = if is_minus a then not (is_minus v) else is_minus v

-- the upper half by the number, and to it the lower half is added, ten places up
abbrev pub product : ℤ → ℤ → ℤ
product a v = signed (differ a v) (upper a * unsigned_abs v + lower a * 10 ^ 10)

abbrev pub quotient : ℤ → ℤ → ℕ
quotient a v = unsigned_abs a / unsigned_abs v

abbrev pub rest : ℤ → ℤ → ℕ
rest a v = unsigned_abs a % unsigned_abs v

-- the quotient would have more than ten digits, or the divisor is 0
abbrev pub is_too_large : ℤ → ℤ → Bool
is_too_large a v = nat_le (unsigned_abs v) (upper a)

-- The word that is stored. 22 and 23 put four digits of the lower half into the distributor's word,
-- whose sign and other digits stay.
abbrev pub stored : stores.Store → Contents → Word
stored store.Lower c = lower_word c
stored store.Upper c = upper_word c
stored store.DataAddress c =
    let w = c.distributor in
    let address = lower c.accumulator / 10 ^ 4 % 10 ^ 4 in
    word w.minus (w.digits / 10 ^ 8 * 10 ^ 8 + address * 10 ^ 4 + w.digits % 10 ^ 4)
stored store.InstructionAddress c =
    let w = c.distributor in
    word w.minus (w.digits / 10 ^ 4 * 10 ^ 4 + lower c.accumulator % 10 ^ 4)
stored store.Distributor c = c.distributor

-- how many places an instruction with this D shifts
abbrev pub places : shifts.Shift → ℕ → ℕ
places shift.Right d = d % 10
places shift.Round d = if d % 10 == 0 then 10 else d % 10
places shift.Left d = d % 10

-- the magnitude after a shift by n places; a left shift drops what leaves the twenty digits
abbrev pub shifted : shifts.Shift → ℕ → ℕ → ℕ
shifted shift.Right n size = size / 10 ^ n
shifted shift.Round n size = (size + 5 * 10 ^ (n - 1)) / 10 ^ n
shifted shift.Left n size = size * 10 ^ n % 10 ^ 20

-- whether a branch goes to D
abbrev pub holds : branches.Branch → Contents → Bool
holds branch.UpperNonZero c = not (upper c.accumulator == 0)
holds branch.NonZero c = not (unsigned_abs c.accumulator == 0)
holds branch.Minus c = is_minus c.accumulator
holds branch.Overflow c = c.latch

-- a branch on overflow turns the latch off
abbrev pub after_test : branches.Branch → Contents → Contents
after_test branch.UpperNonZero c = c
after_test branch.NonZero c = c
after_test branch.Minus c = c
after_test branch.Overflow c = record c { latch = false }

-- how many digits stand to the right of a position
abbrev pub behind : positions.Position → ℕ
behind position.First = 0
behind position.Second = 1
behind position.Third = 2
behind position.Fourth = 3
behind position.Fifth = 4
behind position.Sixth = 5
behind position.Seventh = 6
behind position.Eighth = 7
behind position.Ninth = 8
behind position.Tenth = 9

abbrev pub digit_at : positions.Position → Word → ℕ
digit_at p w = w.digits / 10 ^ behind p % 10

-- an 8 goes to D, a 9 to I, another digit stops
abbrev pub branches_on : Contents → ℕ → ℕ → ℕ → Outcome
branches_on c digit d i =
    if digit == 8 then goes c d else (if digit == 9 then goes c i else stops c why.Digit)

-- A card's words go into words 01 to 10 of D's band; a load card goes on at D. (No step comes here
-- without a card: it has stopped at x, by `lacks_card` of `Step`.)
abbrev pub reads : Contents → List Card → ℕ → ℕ → Outcome
reads c [] d i = stops c why.Card
reads c (card ∷ cards) d i =
    goes (record c { drum = with_words c.drum (band d + 1) card.words; cards = cards })
    (if card.load then d else i)

-- the ten words that 71 punches: 27 to 36 of D's band
abbrev pub punched : Contents → ℕ → List Word
punched c d = slice_range c.drum (band d + 27) (band d + 37)

-- The table: one line for each operation, for an instruction with this D and this I whose D is what
-- the operation wants. The word at D is read before anything changes.
abbrev pub effect : Contents → Op → ℕ → ℕ → Outcome
effect c NoOperation d i = goes c i
effect c Stop d i = if c.programmed_stops then stops c why.Programmed else goes c i
effect c (Add a) d i =
    let w = word_at c d in keeps (takes c w) (c.accumulator +ℤ amount_of a (number_in w)) i
effect c (ResetAdd a) d i =
    let w = word_at c d in goes (becomes (takes c w) (amount_of a (number_in w))) i
effect c Multiply d i =
    let w = word_at c d in keeps (takes c w) (product c.accumulator (number_in w)) i
effect c Divide d i =
    let w = word_at c d in
    let v = number_in w in
    let a = c.accumulator in
    if is_too_large a v then stops (record (takes c w) { latch = true }) why.Quotient
    else
    (let size = rest a v * 10 ^ 10 + quotient a v in
    goes
    (record (takes c w) {
      accumulator = signed (differ a v) size;
      remainder = Some (is_minus a);
    }) i)
effect c DivideReset d i =
    let w = word_at c d in
    let v = number_in w in
    let a = c.accumulator in
    if is_too_large a v then stops (record (takes c w) { latch = true }) why.Quotient
    else goes (becomes (takes c w) (signed (differ a v) (quotient a v))) i
effect c (Store s) d i = goes (puts c d (stored s c)) i
effect c (Shift s) d i =
    let a = c.accumulator in
    goes (becomes c (signed (is_minus a) (shifted s (places s d) (unsigned_abs a)))) i
effect c (Branch b) d i = goes (after_test b c) (if holds b c then d else i)
effect c LoadDistributor d i = goes (takes c (word_at c d)) i
effect c Read d i = reads c c.cards d i
effect c Punch d i = goes c i
effect c (BranchOnDigit p) d i = branches_on c (digit_at p c.distributor) d i

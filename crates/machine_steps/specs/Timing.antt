-- The moments of a step, as the drum's clock shows them: the angle at time 0, and the word times
-- since then. (docs/MACHINE.md counts them from time 0; its f, x, d and e are `found`, `ready`,
-- `reached` and `ended` here, and the parameter `d` is the data address.) That a drum word is had
-- at its angle is in the IBM 650 Manual of Operation; nothing else here is.
use Rattle.std.specs.Prelude.{◌≡◌, ℕ, zero, suc, ◌+◌, ◌*◌, ◌/◌, ◌%◌, ◌≤◌, Bool, true, false}
use Rattle.std.specs.Prelude.{if◌then◌else◌}
use Rattle.base_words.specs.declared.op.Op.{Op}
use Rattle.base_words.specs.declared.op.Op.TheVariants.{Add, ResetAdd, Divide, DivideReset, Multiply}
use Rattle.base_words.specs.declared.op.Op.TheVariants.{Store, Shift, LoadDistributor, Read, Punch}
use Rattle.machine_rotation.specs.Available.{has_parity, is_available}
use Rattle.machine_rotation.specs.Moment.{first}
use Rattle.base_words.specs.Word.{number_in}
use Rattle.base_notes.specs.declared.entry.Entry.{Entry}
use Rattle.machine_steps.specs.Contents.{Contents, upper, word_at}
use Rattle.machine_steps.specs.Effect.{places, quotient, is_too_large}

-- when the instruction is found: the first moment at which its location can be had
abbrev pub found : ℕ → ℕ → ℕ
found location clock = first (is_available location) clock

-- when the instruction is ready
abbrev pub ready : Entry → ℕ → ℕ → ℕ
ready entry location clock = found location clock + entry.before

-- the operation waits for its operand at D: 10, 11, 14 to 24, 60, 61, 64 to 69
abbrev pub waits_for_operand : Op → Bool
waits_for_operand (Add a) = true
waits_for_operand (ResetAdd a) = true
waits_for_operand Divide = true
waits_for_operand DivideReset = true
waits_for_operand Multiply = true
waits_for_operand (Store s) = true
waits_for_operand LoadDistributor = true
waits_for_operand _ = false

-- when its data is reached, from the moment at which it is ready
abbrev pub reached : Op → ℕ → ℕ → ℕ
reached op d clock = if waits_for_operand op then found d clock else clock

-- when it has ended: from the first moment of the entry's parity on, what the operation takes, with
-- its units and its wait
abbrev pub ended : Entry → Op → ℕ → ℕ → ℕ → ℕ → ℕ → ℕ
ended entry op d location units wait clock =
    first (has_parity entry.parity) (reached op d (ready entry location clock)) + entry.after
    + entry.per * units + wait

-- the sum of the last digits of n
abbrev pub digit_sum : ℕ → ℕ → ℕ
digit_sum zero n = 0
digit_sum (suc count) n = n % 10 + digit_sum count (n / 10)

-- The units of an operation's work: the places of a shift, the digit sum of the multiplier or of
-- the quotient.
abbrev pub units_of : Op → ℕ → Contents → ℕ
units_of Divide d c =
    let v = number_in (word_at c d) in
    if is_too_large c.accumulator v then 0 else digit_sum 10 (quotient c.accumulator v)
units_of DivideReset d c =
    let v = number_in (word_at c d) in
    if is_too_large c.accumulator v then 0 else digit_sum 10 (quotient c.accumulator v)
units_of Multiply d c = digit_sum 10 (upper c.accumulator)
units_of (Shift s) d c = places s d
units_of _ d c = 0

-- No step takes more word times: 49 until the instruction is found, 1,000,000 before its
-- data is sought, 49 until that is found, 1 for the parity, 1,000,000 after it, and 90 units (the
-- digit sum of ten nines) of 1,000,000 each. (A wait for the card machine, 1,000,000 at most, comes
-- only where there are no units.)
abbrev pub longest_step : ℕ
longest_step = 49 + 1000000 + 49 + 1 + 1000000 + 90 * 1000000

-- the waits that an operation may have: any of the entry's range for 70 and 71, else none
abbrev pub IsWait : Op → Entry → ℕ → Type 0
IsWait Read entry wait = (entry.wait_min ≤ wait) × (wait ≤ entry.wait_max)
IsWait Punch entry wait = (entry.wait_min ≤ wait) × (wait ≤ entry.wait_max)
IsWait _ entry wait = wait ≡ 0

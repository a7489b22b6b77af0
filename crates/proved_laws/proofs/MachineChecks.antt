-- Definitions evaluated, with answers that were worked out apart from them: single steps, with their times.
use Rattle.std.proofs.Common.{◌≡◌, true, false, refl, pos, negsuc}
use Rattle.machine_rotation.specs.Moment.{first}
use Rattle.base_words.specs.Word.{word}
use Rattle.machine_steps.specs.declared.why.Why.TheVariants as why
use Rattle.machine_steps.specs.Contents.{Contents, lower_word, upper_word}
use Rattle.machine_steps.specs.Run.{time_after}
use Rattle.machine_steps.specs.Step.{State, stopped, contents_after, step}
use Rattle.proved_laws.proofs.SmallMachine.{times, state, zero_word, word_in}

-- what a step leaves
abbrev after : State → Contents
after s = contents_after (step times s 0)

-- multiply -4 by an upper half of 3, with a lower half of 2
abbrev multiplied : State
multiplied = state (word false 1901030106) (word true 4) zero_word (pos 30000000002) true

product : (time_after (step times multiplied 0) ≡ 59) × (lower_word (after multiplied) ≡ word true 12)
    × (upper_word (after multiplied) ≡ word true 2)
unfolding first
product = (refl, refl, refl)

-- divide -17 by 5, and by -5, and the latter with the upper half reset
abbrev divided : State
divided = state (word false 1401030106) (word false 5) zero_word (negsuc 16) true

quotient : (time_after (step times divided 0) ≡ 64) × (lower_word (after divided) ≡ word true 3)
    × (upper_word (after divided) ≡ word true 2)
unfolding first
quotient = (refl, refl, refl)

abbrev divided_by_minus : State
divided_by_minus = state (word false 1401030106) (word true 5) zero_word (negsuc 16) true

positive_quotient : (time_after (step times divided_by_minus 0) ≡ 64)
    × (lower_word (after divided_by_minus) ≡ word false 3) × (upper_word (after divided_by_minus) ≡ word true 2)
unfolding first
positive_quotient = (refl, refl, refl)

abbrev divided_and_reset : State
divided_and_reset = state (word false 6401030106) (word true 5) zero_word (negsuc 16) true

quotient_alone : (time_after (step times divided_and_reset 0) ≡ 64)
    × (lower_word (after divided_and_reset) ≡ word false 3)
    × (upper_word (after divided_and_reset) ≡ word false 0)
unfolding first
quotient_alone = (refl, refl, refl)

-- A quotient of more than ten digits: no units. The latch goes on, and the divisor into the distributor; the rest
-- stays.
abbrev large_quotient : State
large_quotient = state (word false 1401030106) (word true 1) zero_word (pos 10000000000) true

quotient_stop : step times large_quotient 0
    ≡ stopped (record large_quotient.contents { distributor = word true 1; latch = true }) why.Quotient 58
unfolding first
quotient_stop = refl

-- an overflow, with the overflow switch at STOP and at SENSE: the machine holds the same
abbrev overflow_at_stop : State
overflow_at_stop = state (word false 1001030106) (word false 1) zero_word (pos 99999999990000000000) true

overflow_stops : step times overflow_at_stop 0
    ≡ stopped (record overflow_at_stop.contents { distributor = word false 1; accumulator = pos 0; latch = true })
    why.Overflow 55
unfolding first
overflow_stops = refl

abbrev overflowing : State
overflowing = state (word false 1001030106) (word false 1) zero_word (pos 99999999990000000000) false

overflow_goes_on : (time_after (step times overflowing 0) ≡ 55) × ((after overflowing).latch ≡ true)
    × (lower_word (after overflowing) ≡ word false 0) × (upper_word (after overflowing) ≡ word false 0)
unfolding first
overflow_goes_on = (refl, refl, refl, refl)

-- the addresses of the lower half go into the distributor and are stored
abbrev stored_data_address : State
stored_data_address = state (word false 2201030106) zero_word (word false 1234567890) (pos 98760000) true

data_address : (word_in (after stored_data_address) 103 ≡ word false 1298767890)
    × ((after stored_data_address).distributor ≡ word false 1298767890)
unfolding first
data_address = (refl, refl)

abbrev stored_next_address : State
stored_next_address = state (word false 2301030106) zero_word (word false 1234567890) (pos 4321) true

next_address : (word_in (after stored_next_address) 103 ≡ word false 1234564321)
    × ((after stored_next_address).distributor ≡ word false 1234564321)
unfolding first
next_address = (refl, refl)

-- shift and round by one place, and twice by ten
rounded_up : (after (state (word false 3100010106) zero_word zero_word (pos 15) true)).accumulator ≡ pos 2
unfolding first
rounded_up = refl

rounded_by_ten : (after (state (word false 3100000106) zero_word zero_word (pos 5000000000) true)).accumulator ≡ pos 1
unfolding first
rounded_by_ten = refl

rounded_to_zero : (after (state (word false 3100000106) zero_word zero_word (negsuc 4999999998) true)).accumulator
    ≡ pos 0
unfolding first
rounded_to_zero = refl

-- The other stops: the operation at f; the operand and the card at x; the programmed stop and the next location at e.
-- Nothing changes, but for what the operation did that goes on at no location.
abbrev outside : State
outside = state (word false 8400000106) zero_word zero_word (pos 0) true

no_operation : step times outside 0 ≡ stopped outside.contents why.Operation 49
unfolding first
no_operation = refl

abbrev off_the_drum : State
off_the_drum = state (word false 2480000106) zero_word zero_word (pos 0) true

no_operand : step times off_the_drum 0 ≡ stopped off_the_drum.contents why.Operand 52
unfolding first
no_operand = refl

abbrev without_cards : State
without_cards = state (word false 7000490011) zero_word zero_word (pos 0) true

no_card : step times without_cards 3125 ≡ stopped without_cards.contents why.Card 50
unfolding first
no_card = refl

abbrev programmed : State
programmed = state (word false 100000106) zero_word zero_word (pos 0) true

programmed_stop : step times programmed 0 ≡ stopped programmed.contents why.Programmed 50
unfolding first
programmed_stop = refl

abbrev loading : State
loading = state (word false 6901032500) (word true 3) zero_word (pos 0) true

no_next : step times loading 0 ≡ stopped (record loading.contents { distributor = word true 3 }) why.Next 55
unfolding first
no_next = refl

abbrev without_digit : State
without_digit = state (word false 9000000106) zero_word (word false 7999999999) (pos 0) true

no_digit : step times without_digit 0 ≡ stopped without_digit.contents why.Digit 52
unfolding first
no_digit = refl

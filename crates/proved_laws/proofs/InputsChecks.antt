-- Definitions evaluated, with answers that were worked out apart from them.
use Rattle.std.proofs.Common.{◌≡◌, true, false, [], ◌∷◌, refl, arith, Some, None}
use Rattle.std.specs.Prelude.{codes, pos, negsuc}
use Rattle.base_words.specs.Word.{word}
use Rattle.read_replays.specs.InputsText.{IsLine, comment, angle, switches, distributor, accumulator, latch, programmed}
use Rattle.read_replays.specs.InputsText.{on_overflow, words, card, wait, first_said, angle_in, latch_in, given_in}
use Rattle.read_replays.specs.InputsText.{cards_in, waits_in}

-- each kind of line
an_angle : IsLine (codes "ANGLE 01") (angle 1)
an_angle = (omega arith, refl)

the_switches : IsLine (codes "SWITCHES +0000000100") (switches (word false 100))
the_switches = refl

a_distributor : IsLine (codes "DISTRIBUTOR -6900000000") (distributor (word true 6900000000))
a_distributor = refl

an_accumulator : IsLine (codes "ACCUMULATOR -00000000000000000017") (accumulator (negsuc 16))
an_accumulator = (true, 17, omega arith, refl, refl)

minus_zero : IsLine (codes "ACCUMULATOR -00000000000000000000") (accumulator (pos 0))
minus_zero = (true, 0, omega arith, refl, refl)

latches : IsLine (codes "LATCH ON") (latch true) × IsLine (codes "LATCH OFF") (latch false)
latches = (refl, refl)

programmed_switches : IsLine (codes "PROGRAMMED STOP") (programmed true)
    × IsLine (codes "PROGRAMMED RUN") (programmed false)
programmed_switches = (refl, refl)

overflow_switches : IsLine (codes "ONOVERFLOW STOP") (on_overflow true)
    × IsLine (codes "ONOVERFLOW SENSE") (on_overflow false)
overflow_switches = (refl, refl)

drum_words : IsLine (codes "1999 +0000000001") (words 1999 (word false 1 ∷ []))
drum_words = (omega arith, omega arith, omega arith, refl)

a_load_card :
    IsLine (codes "LOAD +0000000000 +0000000000 +0000000000 +0000000000 +0000000000 +0000000000 +0000000000 +0000000000 +0000000000 -0000000009")
    (card true (word false 0 ∷ word false 0 ∷ word false 0 ∷ word false 0 ∷ word false 0 ∷ word false 0 ∷ word false 0
    ∷ word false 0 ∷ word false 0 ∷ word true 9 ∷ []))
a_load_card = (refl, refl)

waits : IsLine (codes "WAIT 7") (wait 7) × IsLine (codes "WAIT 0000007") (wait 7)
    × IsLine (codes "WAIT 1000000") (wait 1000000)
waits = (
  (1, omega arith, omega arith, omega arith, omega arith, refl),
  (7, omega arith, omega arith, omega arith, omega arith, refl),
  (7, omega arith, omega arith, omega arith, omega arith, refl),
)

-- what lines say
settings : (first_said angle_in (comment ∷ latch true ∷ angle 7 ∷ []) ≡ Some 7)
    × (first_said latch_in (comment ∷ []) ≡ None)
settings = (refl, refl)

in_order : given_in (words 7 (word false 1 ∷ word true 2 ∷ []) ∷ wait 3 ∷ words 5 (word false 3 ∷ []) ∷ [])
    ≡ (7, word false 1) ∷ (8, word true 2) ∷ (5, word false 3) ∷ []
in_order = refl

waits_in_order : waits_in (wait 3 ∷ comment ∷ wait 1 ∷ []) ≡ 3 ∷ 1 ∷ []
waits_in_order = refl

cards_in_order : cards_in (card false [] ∷ wait 3 ∷ card true [] ∷ []) ≡ (false, []) ∷ (true, []) ∷ []
cards_in_order = refl

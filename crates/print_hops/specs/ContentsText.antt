-- What a machine holds after a step, as the step's line tells it.
use Rattle.std.specs.Prelude.{ℕ, ◌+◌, Bool, true, false, ◌||◌, not, if◌then◌else◌, List, [], ◌∷◌}
use Rattle.std.specs.Prelude.{◌++◌, Option, Some, None, ℤ, unsigned_abs, codes, slice_range}
use Rattle.base_words.specs.declared.op.Op.{Op}
use Rattle.base_words.specs.declared.op.Op.TheVariants.{Store, Read, Punch}
use Rattle.base_words.specs.declared.word.Word.{Word}
use Rattle.base_words.specs.Numeral.{digits_of}
use Rattle.base_words.specs.Op.{operand_of, is_operand}
use Rattle.base_words.specs.Word.{spaced, spelling}
use Rattle.machine_steps.specs.Contents.{Contents, is_minus}
use Rattle.machine_steps.specs.Effect.{band}
use Rattle.machine_steps.specs.Ways.{Way}
use Rattle.print_hops.specs.Moments.{is_early}

abbrev pub sign : Bool → ℕ
sign minus = if minus then 45 else 43

-- the accumulator: a sign and twenty digits
abbrev pub accumulator_text : ℤ → List ℕ
accumulator_text a = sign (is_minus a) ∷ digits_of 20 (unsigned_abs a)

-- the remainder's sign, while it stands
abbrev pub remainder_text : Option Bool → List ℕ
remainder_text None = []
remainder_text (Some minus) = codes " remainder " ++ sign minus ∷ []

abbrev pub latch_text : Bool → List ℕ
latch_text true = codes " latch on"
latch_text false = codes " latch off"

-- the registers, and the overflow latch
abbrev pub registers_text : Contents → List ℕ
registers_text c =
    codes " accumulator " ++ accumulator_text c.accumulator ++ remainder_text c.remainder
    ++ codes " distributor " ++ spelling c.distributor ++ latch_text c.latch

-- the operation of a step that acts; none where it stops before
abbrev pub acting : Way → Option Op → ℕ → Option Op
acting way None d = None
acting way (Some op) d =
    if is_early way || not (is_operand (operand_of op) d) then None else Some op

-- a location, and the `count` words of the drum from there on
abbrev pub words_text : List Word → ℕ → ℕ → List ℕ
words_text drum at count = digits_of 4 at ++ spaced (slice_range drum at (at + count))

-- What an operation that acted with this D did to words of the drum: the word that it wrote; on a
-- line of its own the card that it read, where it stands then, or the words that it punched.
abbrev pub acted_text : Option Op → ℕ → List Word → List ℕ
acted_text (Some (Store s)) d drum = codes " wrote " ++ words_text drum d 1
acted_text (Some Read) d drum = codes "\nread " ++ words_text drum (band d + 1) 10
acted_text (Some Punch) d drum = codes "\npunched " ++ words_text drum (band d + 27) 10
acted_text _ d drum = []

-- What a machine holds, apart from the time (IBM 650 Manual of Operation).
use Rattle.std.specs.Prelude.{ℕ, ◌/◌, ◌%◌, ◌^◌, Bool, true, false, List, Option, ℤ, pos, negsuc}
use Rattle.std.specs.Prelude.{unsigned_abs, unwrap_or, slice_index_or}
use Rattle.base_words.specs.declared.location.Kind.{Kind}
use Rattle.base_words.specs.declared.location.Kind.TheVariants.{Drum, Switches, Distributor, Lower}
use Rattle.base_words.specs.declared.location.Kind.TheVariants.{Upper}
use Rattle.base_words.specs.declared.word.Word.{Word}
use Rattle.base_words.specs.Kind.{kind_of}
use Rattle.base_words.specs.Word.{word}
use Rattle.machine_steps.specs.declared.card.Card.{Card}

pub record Contents : Type 0 where
  -- the 2000 words of the drum
  pub drum : List Word
  -- the word of the storage entry switches
  pub switches : Word
  pub distributor : Word
  -- one whole number of twenty digits
  pub accumulator : ℤ
  -- Whether the dividend was minus, while the remainder's sign stands: after 14, until an operation
  -- 10 to 19, 30, 31, 35 or 60 to 68 next acts, but for a 14 or 64 that stops for its quotient.
  -- (That sign and how long it lasts aren't the manual's.)
  pub remainder : Option Bool
  -- the overflow latch
  pub latch : Bool
  -- the programmed switch is at STOP
  pub programmed_stops : Bool
  -- the overflow switch is at STOP
  pub overflow_stops : Bool
  -- the cards left in the reader
  pub cards : List Card

-- zero is plus
abbrev pub is_minus : ℤ → Bool
is_minus (pos n) = false
is_minus (negsuc n) = true

-- the upper ten digits
abbrev pub upper : ℤ → ℕ
upper a = unsigned_abs a / 10 ^ 10

-- the lower ten digits
abbrev pub lower : ℤ → ℕ
lower a = unsigned_abs a % 10 ^ 10

-- the halves as words: both have the accumulator's sign, but for the upper one while a remainder's
-- stands
abbrev pub lower_word : Contents → Word
lower_word c = word (is_minus c.accumulator) (lower c.accumulator)

abbrev pub upper_word : Contents → Word
upper_word c = word (unwrap_or c.remainder (is_minus c.accumulator)) (upper c.accumulator)

abbrev pub word_of_kind : Kind → Contents → ℕ → Word
word_of_kind Drum c n = slice_index_or c.drum n (word false 0)
word_of_kind Switches c n = c.switches
word_of_kind Distributor c n = c.distributor
word_of_kind Lower c n = lower_word c
word_of_kind Upper c n = upper_word c

-- the word at the location of this number
abbrev pub word_at : Contents → ℕ → Word
word_at c n = word_of_kind (kind_of n) c n

-- A word of the drum: a sign and ten decimal digits (IBM 650 Manual of Operation).
use Rattle.std.specs.Prelude.{ℕ, ◌%◌, ◌^◌, ◌<◌, Bool, List, ◌∷◌, flat_map, if◌then◌else◌, ℤ, pos}
use Rattle.std.specs.Prelude.{neg_ℤ}
use Rattle.std.proofs.Common.{arith}
use Rattle.base_words.specs.declared.word.Word.{Word}
use Rattle.base_words.specs.Numeral.{digits_of}

-- the text of a word: `+` or `-`, and its ten digits
abbrev pub spelling : Word → List ℕ
spelling word = (if word.minus then 45 else 43) ∷ digits_of 10 word.digits

-- words with a space before each
abbrev pub spaced : List Word → List ℕ
spaced words = flat_map (λ word. 32 ∷ spelling word) words

pub ten_digits : (n : ℕ) → n % 10 ^ 10 < 10 ^ 10
ten_digits n = omega arith

-- the word of this sign and the last ten digits of n
abbrev pub word : Bool → ℕ → Word
word minus n = record { minus = minus; digits = n % 10 ^ 10; ten = ten_digits n }

-- the number of this sign and this magnitude; zero has no sign
abbrev pub signed : Bool → ℕ → ℤ
signed minus magnitude = if minus then neg_ℤ (pos magnitude) else pos magnitude

-- the number of a word; minus zero is 0
abbrev pub number_in : Word → ℤ
number_in word = signed word.minus word.digits

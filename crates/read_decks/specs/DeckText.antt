-- Deck text: what each line says, which texts are decks, what a deck loads, and why another text is
-- refused.
use Rattle.std.specs.Prelude.{◌≡◌, ℕ, ◌+◌, ◌^◌, ◌<◌, ◌≤◌, List, [], ◌∷◌, ◌++◌, length, flat_map}
use Rattle.std.specs.Prelude.{codes, Any, ◌==◌, if◌then◌else◌, Option, Some, None}
use Rattle.std.specs.List.{AllByRecursion}
use Rattle.std.specs.Option.{option_map}
use Rattle.read_decks.specs.declared.deck.fault.DeckFault.{DeckFault}
use Rattle.read_decks.specs.declared.deck.fault.DeckFault.TheVariants.{Read, Memory, Card, Twice}
use Rattle.read_decks.specs.declared.deck.fault.DeckFault.TheVariants.{NoStart, TwoStarts, PastDrum}
use Rattle.read_decks.specs.declared.deck.fault.DeckFault.TheVariants.{TooLong}
use Rattle.base_words.specs.declared.word.Word.{Word}
use Rattle.read_decks.specs.Lines.{lines_of, IsLonger, EachSays, HasFirstFault}
use Rattle.base_words.specs.Numeral.{digits_of}
use Rattle.base_words.specs.Word.{spelling}

-- what a line says
pub data Line : Type 0 where
  comment : Line
  start : ℕ → Line
  card : ℕ → List Word → Line

-- How each kind of line is spelled: `*` and any bytes; `START` and four digits; four digits, and
-- from one to seven words with a space before each.
abbrev pub IsLine : List ℕ → Line → Type 0
IsLine text comment = (rest : List ℕ) × (text ≡ 42 ∷ rest)
IsLine text (start n) = (n < 10 ^ 4) × (text ≡ codes "START " ++ digits_of 4 n)
IsLine text (card n words) =
    (n < 10 ^ 4) × (1 ≤ length words) × (length words ≤ 7)
    × (text ≡ digits_of 4 n ++ flat_map (λ word. 32 ∷ spelling word) words)

-- each line of a text, and what it says
abbrev pub Say : List (List ℕ) → List Line → Type 0
Say texts lines = EachSays IsLine texts lines

-- a word that a deck gives a location, and the number of the card's line, from 1
pub record Given : Type 0 where
  pub location : ℕ
  pub word : Word
  pub line : ℕ

-- the words of a card, from its first location on
abbrev pub given_by_card : ℕ → ℕ → List Word → List Given
given_by_card number location [] = []
given_by_card number location (word ∷ words) =
    record { location = location; word = word; line = number }
    ∷ given_by_card number (location + 1) words

-- what the line of a number gives
abbrev pub given_by : ℕ → Line → List Given
given_by number comment = []
given_by number (start n) = []
given_by number (card n words) = given_by_card number n words

-- what lines give, the first of which has this number: the image of a deck, as a list
abbrev pub given_from : ℕ → List Line → List Given
given_from number [] = []
given_from number (line ∷ lines) = given_by number line ++ given_from (number + 1) lines

-- what is given to a location, if anything is
abbrev pub given_at : List Given → ℕ → Option Given
given_at [] location = None
given_at (one ∷ given) location =
    if one.location == location then Some one else given_at given location

-- the word that a deck of these lines loads into a location, and the number of the card's line
abbrev pub loads_of : List Line → ℕ → Option Word
loads_of lines location = option_map (λ one. one.word) (given_at (given_from 1 lines) location)

abbrev pub card_of : List Line → ℕ → Option ℕ
card_of lines location = option_map (λ one. one.line) (given_at (given_from 1 lines) location)

-- where lines say to start
abbrev pub starts : List Line → List ℕ
starts [] = []
starts (comment ∷ lines) = starts lines
starts (start n ∷ lines) = n ∷ starts lines
starts (card n words ∷ lines) = starts lines

-- the numbers of the cards' lines, in order, the first line having this number
abbrev pub cards_from : ℕ → List Line → List ℕ
cards_from number [] = []
cards_from number (comment ∷ lines) = cards_from (number + 1) lines
cards_from number (start n ∷ lines) = cards_from (number + 1) lines
cards_from number (card n words ∷ lines) = number ∷ cards_from (number + 1) lines

-- a line that names a location past the drum
abbrev pub IsPastDrum : Line → Type 0
IsPastDrum comment = ⊥
IsPastDrum (start n) = 2000 ≤ n
IsPastDrum (card n words) = 2000 < n + length words

-- a location that is given a word
abbrev pub IsGiven : List Given → ℕ → Type 0
IsGiven given location = Any (λ one. one.location ≡ location) given

-- no location is given twice
abbrev pub AreDistinct : List Given → Type 0
AreDistinct [] = Unit {0}
AreDistinct (one ∷ given) = ¬ IsGiven given one.location × AreDistinct given

-- lines with no fault, as far as they go
pub record AreSound (lines : List Line) : Type 0 where
  pub on_drum : AllByRecursion (λ line. ¬ IsPastDrum line) lines
  pub once : AreDistinct (given_from 1 lines)
  pub one_start : length (starts lines) ≤ 1

-- over 4000 lines, or a line over 100 bytes
abbrev pub IsTooLong : List ℕ → Type 0
IsTooLong text = IsLonger 4000 100 text

-- The text is a deck, and these are its lines: it isn't too long, every line is a comment, a start
-- or a card, no location is past the drum or given twice, and there is exactly one start.
pub record IsDeck (text : List ℕ) (lines : List Line) : Type 0 where
  pub short : ¬ IsTooLong text
  pub said : Say (lines_of text) lines
  pub sound : AreSound lines
  pub one_start : length (starts lines) ≡ 1

-- After sound lines, the line of this number and this text has this fault. On one line PastDrum
-- comes before TwoStarts and before Twice. Twice names the card's lowest location that an earlier
-- line gives too.
abbrev pub IsFaultOfLine : List Line → ℕ → List ℕ → DeckFault → Type 0
IsFaultOfLine before number text (Card n) = (n ≡ number) × ((line : Line) → ¬ IsLine text line)
IsFaultOfLine before number text (PastDrum n) =
    (n ≡ number) × ((line : Line) × IsLine text line × IsPastDrum line)
IsFaultOfLine before number text (TwoStarts n) =
    (n ≡ number) × ((at : ℕ) × IsLine text (start at) × (at < 2000) × (length (starts before) ≡ 1))
IsFaultOfLine before number text (Twice location) =
    (n : ℕ) × (words : List Word) × IsLine text (card n words) × (n + length words ≤ 2000)
    × (n ≤ location.number) × (location.number < n + length words)
    × IsGiven (given_from 1 before) location.number
    × ((other : ℕ) → n ≤ other → other < location.number → ¬ IsGiven (given_from 1 before) other)
IsFaultOfLine before number text Read = ⊥
IsFaultOfLine before number text Memory = ⊥
IsFaultOfLine before number text NoStart = ⊥
IsFaultOfLine before number text TooLong = ⊥

-- The first line with a fault has this one: the lines before it are sound.
abbrev pub IsFirstFault : List ℕ → DeckFault → Type 0
IsFirstFault text fault = HasFirstFault IsLine AreSound IsFaultOfLine text fault

-- Every line is sound, and none is a start.
pub record LacksStart (text : List ℕ) : Type 0 where
  pub lines : List Line
  pub said : Say (lines_of text) lines
  pub sound : AreSound lines
  pub none : starts lines ≡ []

-- Why a text is no deck: it is too long; else the fault of the first line with one; else it has no
-- start. (Read and Memory are faults of the reading, not of the text.)
abbrev pub IsRefused : List ℕ → DeckFault → Type 0
IsRefused text TooLong = IsTooLong text
IsRefused text NoStart = ¬ IsTooLong text × LacksStart text
IsRefused text Read = ⊥
IsRefused text Memory = ⊥
IsRefused text (Card n) = ¬ IsTooLong text × IsFirstFault text (Card n)
IsRefused text (PastDrum n) = ¬ IsTooLong text × IsFirstFault text (PastDrum n)
IsRefused text (TwoStarts n) = ¬ IsTooLong text × IsFirstFault text (TwoStarts n)
IsRefused text (Twice location) = ¬ IsTooLong text × IsFirstFault text (Twice location)

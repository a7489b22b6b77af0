-- The inputs of a replay: what each line says, which texts are inputs, what they state, and why
-- another text is refused.
use Rattle.std.specs.Prelude.{◌≡◌, ℕ, ◌+◌, ◌^◌, ◌<◌, ◌≤◌, List, [], ◌∷◌, ◌++◌, length, flat_map}
use Rattle.std.specs.Prelude.{codes, Any, Bool, true, false, if◌then◌else◌, Option, Some, None}
use Rattle.std.specs.Prelude.{IsSome, ℤ}
use Rattle.std.specs.Option.{option_or}
use Rattle.base_words.specs.declared.word.Word.{Word}
use Rattle.read_decks.specs.DeckText as deck
use Rattle.read_decks.specs.Lines.{lines_of, IsLonger, EachSays, HasFirstFault}
use Rattle.base_words.specs.Numeral.{digits_of}
use Rattle.base_words.specs.Word.{signed, spelling, spaced}
use Rattle.read_replays.specs.declared.fault.InputFault.{InputFault}
use Rattle.read_replays.specs.declared.fault.InputFault.TheVariants as faults

-- what a line says
pub data Line : Type 0 where
  comment : Line
  -- the drum's angle at time 0
  angle : ℕ → Line
  -- the words of the storage entry switches and of the distributor
  switches : Word → Line
  distributor : Word → Line
  accumulator : ℤ → Line
  -- the overflow latch is on
  latch : Bool → Line
  -- the programmed switch, the overflow switch is at STOP
  programmed : Bool → Line
  on_overflow : Bool → Line
  -- words for drum locations, from this one on
  words : ℕ → List Word → Line
  -- a card, with the load mark or without, and its words
  card : Bool → List Word → Line
  -- how long the card machine keeps the machine waiting
  wait : ℕ → Line

-- How each kind of line is spelled. Words for locations are spelled as on a card of a deck.
abbrev pub IsLine : List ℕ → Line → Type 0
IsLine text comment = (rest : List ℕ) × (text ≡ 42 ∷ rest)
IsLine text (angle n) = (n < 50) × (text ≡ codes "ANGLE " ++ digits_of 2 n)
IsLine text (switches w) = text ≡ codes "SWITCHES " ++ spelling w
IsLine text (distributor w) = text ≡ codes "DISTRIBUTOR " ++ spelling w
IsLine text (accumulator a) =
    (minus : Bool) × (n : ℕ) × (n < 10 ^ 20) × (a ≡ signed minus n)
    × (text ≡ codes "ACCUMULATOR " ++ (if minus then 45 else 43) ∷ digits_of 20 n)
IsLine text (latch true) = text ≡ codes "LATCH ON"
IsLine text (latch false) = text ≡ codes "LATCH OFF"
IsLine text (programmed true) = text ≡ codes "PROGRAMMED STOP"
IsLine text (programmed false) = text ≡ codes "PROGRAMMED RUN"
IsLine text (on_overflow true) = text ≡ codes "ONOVERFLOW STOP"
IsLine text (on_overflow false) = text ≡ codes "ONOVERFLOW SENSE"
IsLine text (words n ws) = deck.IsLine text (deck.card n ws)
IsLine text (card load ws) =
    (length ws ≡ 10) × (text ≡ codes (if load then "LOAD" else "CARD") ++ spaced ws)
IsLine text (wait n) =
    (count : ℕ) × (1 ≤ count) × (count ≤ 7) × (n < 10 ^ count) × (n ≤ 1000000)
    × (text ≡ codes "WAIT " ++ digits_of count n)

-- each line of a text, and what it says
abbrev pub Say : List (List ℕ) → List Line → Type 0
Say texts lines = EachSays IsLine texts lines

-- what a line says of each setting, if anything
abbrev pub angle_in : Line → Option ℕ
angle_in (angle n) = Some n
angle_in _ = None

abbrev pub switches_in : Line → Option Word
switches_in (switches w) = Some w
switches_in _ = None

abbrev pub distributor_in : Line → Option Word
distributor_in (distributor w) = Some w
distributor_in _ = None

abbrev pub accumulator_in : Line → Option ℤ
accumulator_in (accumulator a) = Some a
accumulator_in _ = None

abbrev pub latch_in : Line → Option Bool
latch_in (latch is_on) = Some is_on
latch_in _ = None

abbrev pub programmed_in : Line → Option Bool
programmed_in (programmed stops) = Some stops
programmed_in _ = None

abbrev pub on_overflow_in : Line → Option Bool
on_overflow_in (on_overflow stops) = Some stops
on_overflow_in _ = None

-- what the first line says that says anything of a setting
abbrev pub first_said : {A : Type 0} → (Line → Option A) → List Line → Option A
first_said in_line [] = None
first_said in_line (line ∷ lines) = option_or (in_line line) (first_said in_line lines)

-- words for consecutive locations, from this one on
abbrev pub placed : ℕ → List Word → List (ℕ × Word)
placed n [] = []
placed n (w ∷ ws) = (n, w) ∷ placed (n + 1) ws

-- the words that a line, and lines, give to drum locations
abbrev pub given_by : Line → List (ℕ × Word)
given_by (words n ws) = placed n ws
given_by _ = []

abbrev pub given_in : List Line → List (ℕ × Word)
given_in lines = flat_map given_by lines

-- a location that is given a word
abbrev pub IsGiven : List Line → ℕ → Type 0
IsGiven lines n = Any (λ given. given.0 ≡ n) (given_in lines)

-- the cards of lines, in order: whether each has the load mark, and its words
abbrev pub card_by : Line → List (Bool × List Word)
card_by (card load ws) = (load, ws) ∷ []
card_by _ = []

abbrev pub cards_in : List Line → List (Bool × List Word)
cards_in lines = flat_map card_by lines

-- the waits of lines, in order
abbrev pub wait_by : Line → List ℕ
wait_by (wait n) = n ∷ []
wait_by _ = []

abbrev pub waits_in : List Line → List ℕ
waits_in lines = flat_map wait_by lines

-- a line that names a location past the drum
abbrev pub IsPastDrum : Line → Type 0
IsPastDrum (words n ws) = 2000 < n + length ws
IsPastDrum _ = ⊥

-- Behind these lines, the line says a setting again, or gives a location a word again.
abbrev pub Repeats : List Line → Line → Type 0
Repeats before comment = ⊥
Repeats before (angle n) = IsSome (first_said angle_in before)
Repeats before (switches w) = IsSome (first_said switches_in before)
Repeats before (distributor w) = IsSome (first_said distributor_in before)
Repeats before (accumulator a) = IsSome (first_said accumulator_in before)
Repeats before (latch is_on) = IsSome (first_said latch_in before)
Repeats before (programmed stops) = IsSome (first_said programmed_in before)
Repeats before (on_overflow stops) = IsSome (first_said on_overflow_in before)
Repeats before (words n ws) =
    (location : ℕ) × (n ≤ location) × (location < n + length ws) × IsGiven before location
Repeats before (card load ws) = ⊥
Repeats before (wait n) = ⊥

-- lines with no fault, behind others
abbrev pub AreSoundBehind : List Line → List Line → Type 0
AreSoundBehind before [] = Unit {0}
AreSoundBehind before (line ∷ lines) =
    ¬ IsPastDrum line × ¬ Repeats before line × AreSoundBehind (before ++ line ∷ []) lines

abbrev pub AreSound : List Line → Type 0
AreSound lines = AreSoundBehind [] lines

-- over 4000 lines, or a line over 200 bytes
abbrev pub IsTooLong : List ℕ → Type 0
IsTooLong text = IsLonger 4000 200 text

-- The text is inputs, and these are its lines: it isn't too long, each line is of one of the kinds,
-- no location is past the drum, no setting is stated twice, and no location is given a word twice.
pub record AreInputs (text : List ℕ) (lines : List Line) : Type 0 where
  pub short : ¬ IsTooLong text
  pub said : Say (lines_of text) lines
  pub sound : AreSound lines

-- Behind sound lines, the line of this number and this text has this fault. On one line PastDrum
-- comes before Repeated.
abbrev pub IsFaultOfLine : List Line → ℕ → List ℕ → InputFault → Type 0
IsFaultOfLine before number text (faults.Line n) =
    (n ≡ number) × ((line : Line) → ¬ IsLine text line)
IsFaultOfLine before number text (faults.PastDrum n) =
    (n ≡ number) × ((line : Line) × IsLine text line × IsPastDrum line)
IsFaultOfLine before number text (faults.Repeated n) =
    (n ≡ number) × ((line : Line) × IsLine text line × ¬ IsPastDrum line × Repeats before line)
IsFaultOfLine before number text faults.Read = ⊥
IsFaultOfLine before number text faults.Memory = ⊥
IsFaultOfLine before number text faults.TooLong = ⊥

-- The first line with a fault has this one: the lines before it are sound.
abbrev pub IsFirstFault : List ℕ → InputFault → Type 0
IsFirstFault text fault = HasFirstFault IsLine AreSound IsFaultOfLine text fault

-- Why a text is no inputs: it is too long; else the fault of the first line with one. (Read and
-- Memory are faults of the reading, not of the text.)
abbrev pub IsRefused : List ℕ → InputFault → Type 0
IsRefused text faults.TooLong = IsTooLong text
IsRefused text faults.Read = ⊥
IsRefused text faults.Memory = ⊥
IsRefused text (faults.Line n) = ¬ IsTooLong text × IsFirstFault text (faults.Line n)
IsRefused text (faults.PastDrum n) = ¬ IsTooLong text × IsFirstFault text (faults.PastDrum n)
IsRefused text (faults.Repeated n) = ¬ IsTooLong text × IsFirstFault text (faults.Repeated n)

-- A line says again what others say exactly where it says again what one of them says.
use Rattle.std.proofs.Common.{◌≡◌, ℕ, zero, suc, ◌↔◌, ◌⊎◌, inl, inr, true, false, List, [], ◌∷◌}
use Rattle.std.proofs.Common.{refl, sym, subst, arith, Option, Some, None}
use Rattle.std.proofs.lemmas.List.{append-nil}
use Rattle.std.specs.Option.{option_or}
use Rattle.std.specs.Prelude.{Any, IsSome}
use Rattle.base_words.specs.declared.word.Word.{Word}
use Rattle.read_replays.specs.InputsText.{Line, comment, angle, switches, distributor, accumulator, latch, programmed}
use Rattle.read_replays.specs.InputsText.{on_overflow, words, card, wait, Repeats, IsGiven, first_said, given_by, given_in}
use Rattle.read_replays.specs.InputsText.{angle_in, switches_in, distributor_in, accumulator_in, latch_in}
use Rattle.read_replays.specs.InputsText.{programmed_in, on_overflow_in}
use Rattle.read_replays.proofs.Marks.{Given, given_in_front, given_behind, given_by_either}

-- it holds of the first of a list
any_first : {A : Type 0} (P : A → Type 0) (x : A) (xs : List A) → P x → Any P (x ∷ xs)
any_first P x xs p = (0, x, omega arith, refl, p)

-- it holds of one behind the first
any_later : {A : Type 0} (P : A → Type 0) (x : A) (xs : List A) → Any P xs → Any P (x ∷ xs)
any_later P x xs (k, one, within, here, p) = (suc k, one, omega arith, here, p)

-- what holds of one of a list holds of the first, or of one behind it
first_or_later : {A : Type 0} (P : A → Type 0) (x : A) (xs : List A) → Any P (x ∷ xs) → P x ⊎ Any P xs
first_or_later P x xs (zero, one, within, here, p) = inl (subst P (sym here) p)
first_or_later P x xs (suc k, one, within, here, p) = inr (k, one, omega arith, here, p)

-- a line that says something of a setting is the first, or one behind it
said_either : {A : Type 0} (here rest : Option A) → IsSome (option_or here rest)
    → IsSome (option_or here None) ⊎ IsSome rest
said_either None rest some = inr some
said_either (Some value) rest some = inl refl

said_first : {A : Type 0} (here rest : Option A) → IsSome (option_or here None) → IsSome (option_or here rest)
said_first None rest some = absurd (let no : false ≡ true = some in cc)
said_first (Some value) rest some = refl

said_later : {A : Type 0} (here rest : Option A) → IsSome rest → IsSome (option_or here rest)
said_later None rest some = some
said_later (Some value) rest some = refl

-- one of the lines that say something of a setting does
abbrev Says : {A : Type 0} → (Line → Option A) → Line → Type 0
Says in_line line = IsSome (first_said in_line (line ∷ []))

said_by_one : {A : Type 0} (in_line : Line → Option A) (lines : List Line) → IsSome (first_said in_line lines)
    → Any (Says in_line) lines
said_by_one in_line [] some = absurd (let no : false ≡ true = some in cc)
said_by_one in_line (line ∷ lines) some =
    elim (said_either (in_line line) (first_said in_line lines) some) [
      | inl here ↦ any_first (Says in_line) line lines here
      | inr rest ↦ any_later (Says in_line) line lines (said_by_one in_line lines rest)
    ]

said_by_all : {A : Type 0} (in_line : Line → Option A) (lines : List Line) → Any (Says in_line) lines
    → IsSome (first_said in_line lines)
said_by_all in_line [] (k, one, within, here, p) = absurd (omega arith)
said_by_all in_line (line ∷ lines) any =
    elim (first_or_later (Says in_line) line lines any) [
      | inl here ↦ said_first (in_line line) (first_said in_line lines) here
      | inr rest ↦ said_later (in_line line) (first_said in_line lines) (said_by_all in_line lines rest)
    ]

said_one : {A : Type 0} (in_line : Line → Option A) (lines : List Line)
    → IsSome (first_said in_line lines) ↔ Any (Says in_line) lines
said_one in_line lines = (said_by_one in_line lines, said_by_all in_line lines)

-- one of the lines that give a location a word does
abbrev Gives : ℕ → Line → Type 0
Gives n line = IsGiven (line ∷ []) n

given_by_one : (lines : List Line) (n : ℕ) → IsGiven lines n → Any (Gives n) lines
given_by_one [] n (k, one, within, here, at) = absurd (omega arith)
given_by_one (line ∷ lines) n given =
    elim (given_by_either (given_by line) (given_in lines) n given) [
      | inl here ↦ any_first (Gives n) line lines (given_in_front (given_by line) [] n here)
      | inr rest ↦ any_later (Gives n) line lines (given_by_one lines n rest)
    ]

given_by_all : (lines : List Line) (n : ℕ) → Any (Gives n) lines → IsGiven lines n
given_by_all [] n (k, one, within, here, at) = absurd (omega arith)
given_by_all (line ∷ lines) n any =
    elim (first_or_later (Gives n) line lines any) [
      | inl here ↦ given_in_front (given_by line) (given_in lines) n
          (subst (λ (given : List (ℕ × Word)). Given given n) (append-nil (given_by line)) here)
      | inr rest ↦ given_behind (given_by line) (given_in lines) n (given_by_all lines n rest)
    ]

-- it says again what one of the lines says
abbrev RepeatsOne : List Line → Line → Type 0
RepeatsOne lines line = Any (λ earlier. Repeats (earlier ∷ []) line) lines

words_one : (lines : List Line) (n : ℕ) (ws : List Word) → Repeats lines (words n ws)
    → RepeatsOne lines (words n ws)
words_one lines n ws (location, low, high, given) =
    let one = given_by_one lines location given in
    (one.0, one.1, one.2, one.3, (location, low, high, one.4))

words_all : (lines : List Line) (n : ℕ) (ws : List Word) → RepeatsOne lines (words n ws)
    → Repeats lines (words n ws)
words_all lines n ws (k, one, within, here, again) =
    (again.0, again.1, again.2, given_by_all lines again.0 (k, one, within, here, again.3))

pub repeats_one : (lines : List Line) (line : Line)
    → Repeats lines line ↔ Any (λ earlier. Repeats (earlier ∷ []) line) lines
repeats_one lines comment = (λ again. absurd again, λ any. any.4)
repeats_one lines (angle n) = said_one angle_in lines
repeats_one lines (switches w) = said_one switches_in lines
repeats_one lines (distributor w) = said_one distributor_in lines
repeats_one lines (accumulator a) = said_one accumulator_in lines
repeats_one lines (latch is_on) = said_one latch_in lines
repeats_one lines (programmed stops) = said_one programmed_in lines
repeats_one lines (on_overflow stops) = said_one on_overflow_in lines
repeats_one lines (words n ws) = (words_one lines n ws, words_all lines n ws)
repeats_one lines (card load ws) = (λ again. absurd again, λ any. any.4)
repeats_one lines (wait n) = (λ again. absurd again, λ any. any.4)

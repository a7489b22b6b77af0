-- Every text is inputs, or it has its fault.
use Rattle.std.proofs.Common.{◌≡◌, ℕ, zero, suc, ◌+◌, List, [], ◌∷◌, length, refl, ap, ◌∙◌, arith, inl, inr}
use Rattle.std.proofs.Common.{◌⊎◌, Option, Some, None}
use Rattle.std.proofs.lemmas.Bool.{cases_lt, cases_eq}
use Rattle.std.specs.Prelude.{Any, IsSome}
use Rattle.base_words.specs.declared.word.Word.{Word}
use Rattle.read_decks.specs.Lines.{lines_of}
use Rattle.read_decks.proofs.FirstFaults as firsts
use Rattle.read_decks.proofs.FirstFaults.{all_or_first}
use Rattle.proved_laws.proofs.LineCases.{least_or_none, longer_or_not}
use Rattle.read_replays.specs.declared.fault.InputFault.{InputFault}
use Rattle.read_replays.specs.declared.fault.InputFault.TheVariants as faults
use Rattle.read_replays.specs.InputsText.{Line, comment, angle, switches, distributor, accumulator, latch, programmed}
use Rattle.read_replays.specs.InputsText.{on_overflow, words, card, wait, IsLine, IsGiven, given_in, IsPastDrum, Repeats}
use Rattle.read_replays.specs.InputsText.{AreSound, AreInputs, IsFaultOfLine, IsRefused, first_said, angle_in}
use Rattle.read_replays.specs.InputsText.{switches_in, distributor_in, accumulator_in, latch_in, programmed_in}
use Rattle.read_replays.specs.InputsText.{on_overflow_in}
use Rattle.proved_laws.proofs.InputLines.{line_cases}
use Rattle.read_replays.proofs.Progress.{first_refused}
use Rattle.read_replays.proofs.Sounds.{sound_more}

some_cases : {A : Type 0} (one : Option A) → IsSome one ⊎ (IsSome one → ⊥)
some_cases None = inr (λ is. cc)
some_cases (Some said) = inl (cc)

among_cases : (given : List (ℕ × Word)) (location : ℕ) → Any (λ one. one.0 ≡ location) given
    ⊎ (Any (λ one. one.0 ≡ location) given → ⊥)
among_cases [] location = inr (λ given. omega (arith, given.2))
among_cases (one ∷ given) location = elim (cases_eq one.0 location) [
  | inl here ↦ inl (0, one, omega arith, refl, here)
  | inr other ↦ elim (among_cases given location) [
    | inl further ↦ inl (suc further.0, further.1, omega (arith, further.2), further.3, further.4)
    | inr none ↦ inr (neither other none)
  ]
]
  where
    neither : (one.0 ≡ location → ⊥) → (Any (λ (x : ℕ × Word). x.0 ≡ location) given → ⊥)
        → Any (λ (x : ℕ × Word). x.0 ≡ location) (one ∷ given) → ⊥
    neither other none (zero, first, within, here, at) = other (ap (λ (x : ℕ × Word). x.0) here ∙ at)
    neither other none (suc k, first, within, here, at) = none (k, first, omega arith, here, at)

past_cases : (line : Line) → IsPastDrum line ⊎ (IsPastDrum line → ⊥)
past_cases (words n ws) = elim (cases_lt 2000 (n + length ws)) [ inl past ↦ inl past | inr within ↦ inr (λ past. omega arith) ]
past_cases comment = inr (λ past. past)
past_cases (angle n) = inr (λ past. past)
past_cases (switches w) = inr (λ past. past)
past_cases (distributor w) = inr (λ past. past)
past_cases (accumulator a) = inr (λ past. past)
past_cases (latch b) = inr (λ past. past)
past_cases (programmed b) = inr (λ past. past)
past_cases (on_overflow b) = inr (λ past. past)
past_cases (card load ws) = inr (λ past. past)
past_cases (wait n) = inr (λ past. past)

repeats_cases : (before : List Line) (line : Line) → Repeats before line ⊎ (Repeats before line → ⊥)
repeats_cases before comment = inr (λ again. again)
repeats_cases before (angle n) = some_cases (first_said angle_in before)
repeats_cases before (switches w) = some_cases (first_said switches_in before)
repeats_cases before (distributor w) = some_cases (first_said distributor_in before)
repeats_cases before (accumulator a) = some_cases (first_said accumulator_in before)
repeats_cases before (latch b) = some_cases (first_said latch_in before)
repeats_cases before (programmed b) = some_cases (first_said programmed_in before)
repeats_cases before (on_overflow b) = some_cases (first_said on_overflow_in before)
repeats_cases before (words n ws) =
    elim (least_or_none (IsGiven before) (among_cases (given_in before)) n (length ws)) [
      | inl found ↦ inl (found.0, found.1, found.2, found.3)
      | inr none ↦ inr (λ again. none again.0 again.1 again.2 again.3)
    ]
repeats_cases before (card load ws) = inr (λ again. again)
repeats_cases before (wait n) = inr (λ again. again)

goes_on : (before : List Line) (number : ℕ) (text : List ℕ) → AreSound before
    → firsts.Goes IsLine AreSound IsFaultOfLine before number text
goes_on before number text sound = elim (line_cases text) [
  | inr none ↦ inr (faults.Line number, (refl, none))
  | inl found ↦ elim (past_cases found.0) [
    | inl past ↦ inr (faults.PastDrum number, (refl, (found.0, found.1, past)))
    | inr on_drum ↦ elim (repeats_cases before found.0) [
      | inl again ↦ inr (faults.Repeated number, (refl, (found.0, found.1, on_drum, again)))
      | inr once ↦ inl (found.0, found.1, sound_more before found.0 sound on_drum once)
    ]
  ]
]

pub inputs_or_fault : (text : List ℕ) → ((lines : List Line) × AreInputs text lines)
    ⊎ ((fault : InputFault) × IsRefused text fault)
inputs_or_fault text = elim (longer_or_not 4000 200 text) [
  | inl long ↦ inr (faults.TooLong, long)
  | inr short ↦ elim (all_or_first IsLine AreSound IsFaultOfLine goes_on text [] (lines_of text) [] refl tt tt) [
    | inr fault ↦ inr (fault.0, first_refused text fault.0 short fault.1)
    | inl all ↦ inl (all.0, record { short = short; said = all.1; sound = all.2 })
  ]
]

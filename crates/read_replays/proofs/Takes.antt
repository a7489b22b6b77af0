-- A setting more.
use Rattle.std.proofs.Common.{◌≡◌, ℕ, zero, suc, ◌^◌, ◌<◌, Bool, true, false, List, [], ◌∷◌, ◌++◌, refl, ap, sym, ◌∙◌}
use Rattle.std.proofs.Common.{subst, ℤ, Some, arith, to_z, of_z}
use Rattle.std.specs.Option.{ForSome}
use Rattle.std.specs.Int.{w128}
use Rattle.std.proofs.lemmas.Int.{to_z-of_z, fits_signed_from_abs}
use Rattle.std.specs.Prelude.{unsigned_abs}
use Rattle.base_words.specs.declared.word.Word.{Word}
use Rattle.base_words.specs.Word.{signed}
use Rattle.read_replays.specs.declared.settings.Settings.{Settings}
use Rattle.read_replays.specs.InputsOfLines.{HoldSettings}
use Rattle.read_replays.specs.InputsText.{Line, IsLine, Repeats, angle, switches, distributor, accumulator}
use Rattle.read_replays.specs.InputsText.{latch, programmed, on_overflow}
use Rattle.read_replays.proofs.Firsts.{keeps, fills}

-- a magnitude is that of its signed number
magnitude_of : (minus : Bool) (n : ℕ) → unsigned_abs (signed minus n) ≡ n
magnitude_of false n = refl
magnitude_of true zero = refl
magnitude_of true (suc n) = refl

pub small_accumulator : (text : List ℕ) (a : ℤ) → IsLine text (accumulator a) → unsigned_abs a < 10 ^ 20
small_accumulator text a (minus, n, small, is_a, written) =
    let same : unsigned_abs a ≡ n = ap unsigned_abs is_a ∙ magnitude_of minus n in
    subst (λ (m : ℕ). m < 10 ^ 20) (sym same) small

-- a number of twenty digits is a signed number of the program
pub same_signed : (a : ℤ) → unsigned_abs a < 10 ^ 20 → to_z w128 (of_z w128 a) ≡ a
same_signed a small = to_z-of_z w128 a (fits_signed_from_abs w128 a (omega (arith, small)))

-- what is so of a value is so of any that the slot holds
of_some : {A : Type 0} (P : A → Type 0) (value : A) → P value → ForSome (Some value) P
of_some P value p = λ x is_x. let same : value ≡ x = cc in subst P same p

-- the settings of lines, and one more that none of them states
abbrev pub HasAdded : Settings → Settings → Line → List Line → Type 0
HasAdded old new line lines = HoldSettings old lines → ¬ Repeats lines line → HoldSettings new (lines ++ line ∷ [])

pub with_angle : (old : Settings) (value : ℕ) (lines : List Line) → value < 50 → HoldSettings old lines
    → ¬ Repeats lines (angle value) → HoldSettings (record old { angle = Some value }) (lines ++ angle value ∷ [])
with_angle old value lines small holds once = search (keeps, fills, of_some (λ n. n < 50) value small, holds.twenty)

pub with_switches : (old : Settings) (value : Word) (lines : List Line) → HoldSettings old lines
    → ¬ Repeats lines (switches value) → HoldSettings (record old { switches = Some value }) (lines ++ switches value ∷ [])
with_switches old value lines holds once = search (keeps, fills, holds.on_drum, holds.twenty)

pub with_distributor : (old : Settings) (value : Word) (lines : List Line) → HoldSettings old lines
    → ¬ Repeats lines (distributor value) → HoldSettings (record old { distributor = Some value }) (lines ++ distributor value ∷ [])
with_distributor old value lines holds once = search (keeps, fills, holds.on_drum, holds.twenty)

pub with_accumulator : (old : Settings) (value : ℤ) (lines : List Line) → unsigned_abs value < 10 ^ 20 → HoldSettings old lines
    → ¬ Repeats lines (accumulator value) → HoldSettings (record old { accumulator = Some value }) (lines ++ accumulator value ∷ [])
with_accumulator old value lines small holds once = search (keeps, fills, of_some (λ a. unsigned_abs a < 10 ^ 20) value small, holds.on_drum)

pub with_latch : (old : Settings) (value : Bool) (lines : List Line) → HoldSettings old lines
    → ¬ Repeats lines (latch value) → HoldSettings (record old { latch = Some value }) (lines ++ latch value ∷ [])
with_latch old value lines holds once = search (keeps, fills, holds.on_drum, holds.twenty)

pub with_programmed : (old : Settings) (value : Bool) (lines : List Line) → HoldSettings old lines
    → ¬ Repeats lines (programmed value) → HoldSettings (record old { programmed = Some value }) (lines ++ programmed value ∷ [])
with_programmed old value lines holds once = search (keeps, fills, holds.on_drum, holds.twenty)

pub with_on_overflow : (old : Settings) (value : Bool) (lines : List Line) → HoldSettings old lines
    → ¬ Repeats lines (on_overflow value) → HoldSettings (record old { on_overflow = Some value }) (lines ++ on_overflow value ∷ [])
with_on_overflow old value lines holds once = search (keeps, fills, holds.on_drum, holds.twenty)

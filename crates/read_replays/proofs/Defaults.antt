-- A slot's value, or its default.
use Rattle.std.proofs.Common.{◌≡◌, ◌^◌, ◌<◌, refl, ap, ◌∙◌, false, Option, Some, None, ℤ, pos, arith}
use Rattle.std.specs.Prelude.{unwrap_or, unsigned_abs}
use Rattle.std.specs.Option.{ForSome}
use Rattle.base_words.specs.declared.word.Word.{Word}
use Rattle.base_words.specs.Word.{word}
use Rattle.base_words.proofs.Same.{same_word}

pub or_default : {A : Type 0} {value : A} {slot said : Option A} (default : A) → value ≡ unwrap_or slot default
    → slot ≡ said → value ≡ unwrap_or said default
or_default default e held = e ∙ ap (λ one. unwrap_or one default) held

pub or_zero : {value : Word} {slot said : Option Word} (zero : Word) → value ≡ unwrap_or slot zero → slot ≡ said
    → zero.minus ≡ false → zero.digits ≡ 0
    → value ≡ unwrap_or said (word false 0)
or_zero {said = said} zero e held minus digits =
    or_default zero e held ∙ ap (unwrap_or said) (same_word zero (word false 0) minus digits)

-- a number of twenty digits, or zero
pub small_or_zero : (slot : Option ℤ) → ForSome slot (λ a. unsigned_abs a < 10 ^ 20)
    → unsigned_abs (unwrap_or slot (pos 0)) < 10 ^ 20
small_or_zero None small = omega arith
small_or_zero (Some a) small = small a refl

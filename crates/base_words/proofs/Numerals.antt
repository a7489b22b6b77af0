-- Numbers that are written with a fixed number of decimal digits.
use Rattle.std.proofs.Common.{◌≡◌, ℕ, zero, suc, ◌+◌, ◌-◌, ◌^◌, ◌/◌, ◌%◌, ◌<◌, ◌≤◌, List, [], ◌∷◌, ◌++◌, length, get_or}
use Rattle.std.proofs.Common.{refl, sym, ◌∙◌, subst, inl, inr, ◌⊎◌, arith, length-append}
use Rattle.std.proofs.Math.ListN.{get_or-append}
use Rattle.std.proofs.lemmas.Bool.{cases_lt}
use Rattle.std.proofs.lemmas.List.{get_or-append_right}
use Rattle.std.proofs.Math.Nat.{pow-le-pow_right}
use Rattle.base_words.specs.Numeral.{digits_of}

pub length-digits_of : (k n : ℕ) → length (digits_of k n) ≡ k
length-digits_of zero n = refl
length-digits_of (suc k) n =
    length-append (digits_of k (n / 10)) ((48 + n % 10) ∷ []) ∙ omega (arith, length-digits_of k (n / 10))

-- each byte of a written number is a digit
pub digit_at : (k n i : ℕ) → i < k → (48 ≤ get_or (digits_of k n) i 0) × (get_or (digits_of k n) i 0 ≤ 57)
digit_at zero n i h = absurd (omega arith)
digit_at (suc k) n i h =
    let long = length-digits_of k (n / 10) in
    elim (cases_lt i k) [
      | inl before ↦
          let within : i < length (digits_of k (n / 10)) = omega arith in
          rw get_or-append (digit_at k (n / 10) i before)
      | inr past ↦
          let start : i - k ≡ 0 = omega arith in
          let here : get_or (digits_of k (n / 10) ++ (48 + n % 10) ∷ []) i 0 ≡ 48 + n % 10 =
          get_or-append_right (digits_of k (n / 10)) ((48 + n % 10) ∷ []) k i 0 long past ∙ rw start refl in
          (omega (arith, here), omega (arith, here))
    ]

-- numbers of at most 18 digits, and the next power
pub pow_fits : (k : ℕ) → k < 19 → 10 ^ k ≤ 10 ^ 18
pow_fits k h = let below : k ≤ 18 = omega arith in
    let ten : 0 < 10 = omega arith in
    pow-le-pow_right ten below

-- a text with another byte writes no number
pub not_digits : (text : List ℕ) (i : ℕ) → i < length text → (get_or text i 0 < 48) ⊎ (57 < get_or text i 0) → (n : ℕ)
    → text ≡ digits_of (length text) n → ⊥
not_digits text i within other n e =
    let P : List ℕ → Type 0 = λ t. (48 ≤ get_or t i 0) × (get_or t i 0 ≤ 57) in
    let digit : P text = subst P (sym e) (digit_at (length text) n i within) in
    elim other [ inl low ↦ omega arith | inr high ↦ omega arith ]

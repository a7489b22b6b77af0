-- Each text is a line of inputs, or it is none.
use Rattle.std.proofs.Common.{◌≡◌, ℕ, ◌^◌, ◌<◌, ◌≤◌, Bool, true, false, cond, List, ◌∷◌, ◌++◌, length, take, drop}
use Rattle.std.proofs.Common.{refl, ap, sym, ◌∙◌, subst, arith, inl, inr, ◌⊎◌, take-append-drop, ℤ}
use Rattle.std.proofs.Math.Seq.{take-append_seam, drop-append_seam}
use Rattle.std.proofs.lemmas.Bool.{cases_lt}
use Rattle.std.specs.Prelude.{codes, if◌then◌else◌}
use Rattle.base_words.specs.declared.word.Word.{Word}
use Rattle.base_words.specs.Numeral.{digits_of}
use Rattle.base_words.specs.Word.{signed, spelling, spaced}
use Rattle.proved_laws.proofs.LineCases.{card_cases, comment_cases, least_or_none, list_cases, words_cases}
use Rattle.read_replays.specs.InputsText.{Line, comment, angle, switches, distributor, accumulator, latch, programmed}
use Rattle.read_replays.specs.InputsText.{on_overflow, words, card, wait, IsLine}

-- a property of some value, or of none
abbrev Some : (A : Type 0) → (A → Type 0) → Type 0
Some A P = ((x : A) × P x) ⊎ ((x : A) → P x → ⊥)

angle_cases : (text : List ℕ) → Some ℕ (λ n. IsLine text (angle n))
angle_cases text = elim (least_or_none (λ n. text ≡ codes "ANGLE " ++ digits_of 2 n)
    (λ n. list_cases text (codes "ANGLE " ++ digits_of 2 n)) 0 50) [
      | inl found ↦ inl (found.0, (omega (arith, found.2), found.3))
      | inr none ↦ inr (λ n is. none n (omega arith) (omega (arith, is.0)) is.1)
    ]

-- a word of one sign behind some letters, and of any
signed_cases : (front : List ℕ) (minus : Bool) (text : List ℕ) → ((word : Word) × (text ≡ front ++ spelling word))
    ⊎ ((word : Word) → word.minus ≡ minus → text ≡ front ++ spelling word → ⊥)
signed_cases front minus text =
    let Is : ℕ → Type 0 = λ n. text ≡ front ++ cond minus 45 43 ∷ digits_of 10 n in
    elim (least_or_none Is (λ n. list_cases text (front ++ cond minus 45 43 ∷ digits_of 10 n)) 0 (10 ^ 10)) [
      | inl found ↦ inl (record { minus = minus; digits = found.0; ten = omega (arith, found.2) }, found.3)
      | inr none ↦ inr (λ word same is. none word.digits (omega arith) (omega (arith, word.ten))
          (subst (λ (m : Bool). text ≡ front ++ cond m 45 43 ∷ digits_of 10 word.digits) same is))
    ]

either : (b : Bool) {c : Bool} → c ≡ b → (c ≡ true → ⊥) → (c ≡ false → ⊥) → ⊥
either true e p q = p e
either false e p q = q e

word_cases : (front : List ℕ) (text : List ℕ) → Some Word (λ word. text ≡ front ++ spelling word)
word_cases front text = elim (signed_cases front true text) [
  | inl found ↦ inl found
  | inr no_minus ↦ elim (signed_cases front false text) [
    | inl found ↦ inl found
    | inr no_plus ↦ inr (λ word is. either word.minus refl (λ same. no_minus word same is)
        (λ same. no_plus word same is))
  ]
]

-- an accumulator of one sign, and of any
abbrev accumulator_text : Bool → ℕ → List ℕ
accumulator_text minus n = codes "ACCUMULATOR " ++ (if minus then 45 else 43) ∷ digits_of 20 n

half_cases : (minus : Bool) (text : List ℕ) → Some ℕ (λ n. (n < 10 ^ 20) × (text ≡ accumulator_text minus n))
half_cases minus text = elim (least_or_none (λ n. text ≡ accumulator_text minus n)
    (λ n. list_cases text (accumulator_text minus n)) 0 (10 ^ 20)) [
      | inl found ↦ inl (found.0, (omega (arith, found.2), found.3))
      | inr none ↦ inr (λ n is. none n (omega arith) (omega (arith, is.0)) is.1)
    ]

accumulator_cases : (text : List ℕ) → Some ℤ (λ a. IsLine text (accumulator a))
accumulator_cases text = elim (half_cases true text) [
  | inl found ↦ inl (signed true found.0, (true, found.0, found.1.0, refl, found.1.1))
  | inr no_minus ↦ elim (half_cases false text) [
    | inl found ↦ inl (signed false found.0, (false, found.0, found.1.0, refl, found.1.1))
    | inr no_plus ↦ inr (none no_minus no_plus)
  ]
]
  where
    none : ((n : ℕ) → (n < 10 ^ 20) × (text ≡ accumulator_text true n) → ⊥)
        → ((n : ℕ) → (n < 10 ^ 20) × (text ≡ accumulator_text false n) → ⊥) → (a : ℤ)
        → IsLine text (accumulator a) → ⊥
    none no_minus no_plus a (true, n, few, same, is) = no_minus n (few, is)
    none no_minus no_plus a (false, n, few, same, is) = no_plus n (few, is)

-- a setting of two texts
two_cases : (on off : List ℕ) (text : List ℕ) (Is : Bool → Type 0) → (text ≡ on → Is true)
    → (text ≡ off → Is false) → (Is true → text ≡ on) → (Is false → text ≡ off) → Some Bool Is
two_cases on off text Is to_on to_off is_on is_off = elim (list_cases text on) [
  | inl is ↦ inl (true, to_on is)
  | inr not_on ↦ elim (list_cases text off) [
    | inl is ↦ inl (false, to_off is)
    | inr not_off ↦ inr (λ b is. neither b not_on not_off is)
  ]
]
  where
    neither : (b : Bool) → (text ≡ on → ⊥) → (text ≡ off → ⊥) → Is b → ⊥
    neither true not_on not_off is = not_on (is_on is)
    neither false not_on not_off is = not_off (is_off is)

-- ten words behind four letters
ten_cases : (front : List ℕ) → length front ≡ 4 → (text : List ℕ)
    → Some (List Word) (λ ws. (length ws ≡ 10) × (text ≡ front ++ spaced ws))
ten_cases front four text = elim (list_cases (take 4 text) front) [
  | inr not ↦ inr (λ ws is. not (split ws is.1).0)
  | inl begins ↦ elim (words_cases 10 (drop 4 text)) [
    | inl found ↦ inl (
      found.0,
      (
        found.1,
        sym (take-append-drop 4 text) ∙ ap (λ (xs : List ℕ). xs ++ drop 4 text) begins
            ∙ ap (λ (xs : List ℕ). front ++ xs) found.2,
      ),
    )
    | inr none ↦ inr (λ ws is. none ws is.0 (split ws is.1).1)
  ]
]
  where
    split : (ws : List Word) → text ≡ front ++ spaced ws → (take 4 text ≡ front) × (drop 4 text ≡ spaced ws)
    split ws is = (
      ap (take 4) is ∙ ap (λ k. take k (front ++ spaced ws)) (sym four) ∙ take-append_seam front (spaced ws),
      ap (drop 4) is ∙ ap (λ k. drop k (front ++ spaced ws)) (sym four) ∙ drop-append_seam front (spaced ws),
    )

-- a wait of `count` digits, and of any number of them
abbrev IsWait : List ℕ → ℕ → ℕ → Type 0
IsWait text count n = (n < 10 ^ count) × (text ≡ codes "WAIT " ++ digits_of count n)

one_wait : (text : List ℕ) (count n : ℕ) → IsWait text count n ⊎ (IsWait text count n → ⊥)
one_wait text count n = elim (cases_lt n (10 ^ count)) [
  | inr many ↦ inr (λ is. omega (arith, is.0))
  | inl few ↦ elim (list_cases text (codes "WAIT " ++ digits_of count n)) [
    | inl is ↦ inl (few, is)
    | inr not ↦ inr (λ is. not is.1)
  ]
]

abbrev HasWait : List ℕ → ℕ → Type 0
HasWait text count = (n : ℕ) × (n ≤ 1000000) × IsWait text count n

waits_of : (text : List ℕ) (count : ℕ) → HasWait text count ⊎ (HasWait text count → ⊥)
waits_of text count = elim (least_or_none (IsWait text count) (one_wait text count) 0 1000001) [
  | inl found ↦ inl (found.0, omega (arith, found.2), found.3)
  | inr none ↦ inr (λ has. none has.0 (omega arith) (omega (arith, has.1)) has.2)
]

wait_cases : (text : List ℕ) → Some ℕ (λ n. IsLine text (wait n))
wait_cases text = elim (least_or_none (HasWait text) (waits_of text) 1 7) [
  | inl found ↦ inl (
    found.3.0,
    (found.0, found.1, omega (arith, found.2), found.3.2.0, found.3.1, found.3.2.1),
  )
  | inr none ↦ inr (λ n is. none is.0 is.1 (omega (arith, is.2)) (n, is.4, (is.3, is.5)))
]

-- what none of the kinds says, no line says
record IsNone (text : List ℕ) : Type 0 where
  no_comment : IsLine text comment → ⊥
  no_angle : (n : ℕ) → IsLine text (angle n) → ⊥
  no_switches : (w : Word) → IsLine text (switches w) → ⊥
  no_distributor : (w : Word) → IsLine text (distributor w) → ⊥
  no_accumulator : (a : ℤ) → IsLine text (accumulator a) → ⊥
  no_latch : (b : Bool) → IsLine text (latch b) → ⊥
  no_programmed : (b : Bool) → IsLine text (programmed b) → ⊥
  no_overflow : (b : Bool) → IsLine text (on_overflow b) → ⊥
  no_words : (n : ℕ) (ws : List Word) → IsLine text (words n ws) → ⊥
  no_load : (ws : List Word) → IsLine text (card true ws) → ⊥
  no_card : (ws : List Word) → IsLine text (card false ws) → ⊥
  no_wait : (n : ℕ) → IsLine text (wait n) → ⊥

none_at_all : (text : List ℕ) → IsNone text → (line : Line) → IsLine text line → ⊥
none_at_all text none comment is = none.no_comment is
none_at_all text none (angle n) is = none.no_angle n is
none_at_all text none (switches w) is = none.no_switches w is
none_at_all text none (distributor w) is = none.no_distributor w is
none_at_all text none (accumulator a) is = none.no_accumulator a is
none_at_all text none (latch b) is = none.no_latch b is
none_at_all text none (programmed b) is = none.no_programmed b is
none_at_all text none (on_overflow b) is = none.no_overflow b is
none_at_all text none (words n ws) is = none.no_words n ws is
none_at_all text none (card true ws) is = none.no_load ws is
none_at_all text none (card false ws) is = none.no_card ws is
none_at_all text none (wait n) is = none.no_wait n is

abbrev IsSome : List ℕ → Type 0
IsSome text = (line : Line) × IsLine text line

-- one kind after the other
or_next : {A : Type 0} {P : A → Type 0} {text : List ℕ} → Some A P → ((x : A) → P x → IsSome text)
    → (((x : A) → P x → ⊥) → Some Line (IsLine text)) → Some Line (IsLine text)
or_next (inl found) says further = inl (says found.0 found.1)
or_next (inr none) says further = further none

pub line_cases : (text : List ℕ) → ((line : Line) × IsLine text line) ⊎ ((line : Line) → IsLine text line → ⊥)
line_cases text = elim (comment_cases text) [
  | inl is ↦ inl (comment, is)
  | inr no_comment ↦ elim (card_cases text) [
    | inl found ↦ inl (words found.0 found.1, found.2)
    | inr no_words ↦
        or_next (angle_cases text) (λ n is. (angle n, is)) (λ no_angle.
        or_next (word_cases (codes "SWITCHES ") text) (λ w is. (switches w, is)) (λ no_switches.
        or_next (word_cases (codes "DISTRIBUTOR ") text) (λ w is. (distributor w, is)) (λ no_distributor.
        or_next (accumulator_cases text) (λ a is. (accumulator a, is)) (λ no_accumulator.
        or_next (two_cases (codes "LATCH ON") (codes "LATCH OFF") text (λ b. IsLine text (latch b)) (λ is. is) (λ is. is)
        (λ is. is) (λ is. is)) (λ b is. (latch b, is)) (λ no_latch.
        or_next (two_cases (codes "PROGRAMMED STOP") (codes "PROGRAMMED RUN") text (λ b. IsLine text (programmed b))
        (λ is. is) (λ is. is) (λ is. is) (λ is. is)) (λ b is. (programmed b, is)) (λ no_programmed.
        or_next (two_cases (codes "ONOVERFLOW STOP") (codes "ONOVERFLOW SENSE") text (λ b. IsLine text (on_overflow b))
        (λ is. is) (λ is. is) (λ is. is) (λ is. is)) (λ b is. (on_overflow b, is)) (λ no_overflow.
        or_next (ten_cases (codes "LOAD") refl text) (λ ws is. (card true ws, is)) (λ no_load.
        or_next (ten_cases (codes "CARD") refl text) (λ ws is. (card false ws, is)) (λ no_card.
        or_next (wait_cases text) (λ n is. (wait n, is)) (λ no_wait. inr (none_at_all text (record {
          no_comment = no_comment;
          no_angle = no_angle;
          no_switches = no_switches;
          no_distributor = no_distributor;
          no_accumulator = no_accumulator;
          no_latch = no_latch;
          no_programmed = no_programmed;
          no_overflow = no_overflow;
          no_words = no_words;
          no_load = no_load;
          no_card = no_card;
          no_wait = no_wait;
        }))))))))))))
  ]
]

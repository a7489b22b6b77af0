-- Each text is a line of a deck, or it is none; and it is longer than a limit of lines and bytes,
-- or it isn't.
use Rattle.std.proofs.Common.{◌≡◌, ℕ, zero, suc, ◌+◌, ◌^◌, ◌<◌, ◌≤◌, Bool, true, false, cond, List, [], ◌∷◌, ◌++◌}
use Rattle.std.proofs.Common.{length, take, drop, refl, ap, sym, ◌∙◌, subst, arith, inl, inr, ◌⊎◌, take-append-drop}
use Rattle.std.proofs.Math.Seq.{take-append_seam, drop-append_seam}
use Rattle.std.proofs.lemmas.Bool.{cases_lt, cases_eq}
use Rattle.std.specs.Prelude.{codes, Any}
use Rattle.base_words.specs.declared.word.Word.{Word}
use Rattle.read_decks.specs.DeckText.{Line, comment, start, card, IsLine}
use Rattle.read_decks.specs.Lines.{lines_of, IsLonger}
use Rattle.base_words.specs.Numeral.{digits_of}
use Rattle.base_words.specs.Word.{spelling, spaced}
use Rattle.read_decks.proofs.DeckLaws.{length-spelling}
use Rattle.read_decks.proofs.LineLemmas.{long_among, long_behind}
use Rattle.base_words.proofs.Numerals.{length-digits_of}

-- the least of the `count` numbers from `first` on with a property; or none of them has it
pub least_or_none : (P : ℕ → Type 0) → ((n : ℕ) → P n ⊎ (P n → ⊥)) → (first count : ℕ)
    → ((n : ℕ) × (first ≤ n) × (n < first + count) × P n × ((m : ℕ) → first ≤ m → m < n → P m → ⊥))
    ⊎ ((n : ℕ) → first ≤ n → n < first + count → P n → ⊥)
least_or_none P each first zero = inr (λ n low high here. omega arith)
least_or_none P each first (suc count) = elim (least_or_none P each first count) [
  | inl found ↦ inl (found.0, found.1, omega (arith, found.2), found.3, found.4)
  | inr none ↦ elim (each (first + count)) [
    | inl here ↦ inl (first + count, omega arith, omega arith, here, none)
    | inr not ↦ inr (λ n low high here. elim (cases_lt n (first + count)) [
      | inl below ↦ none n low below here
      | inr from ↦
          let same : n ≡ first + count = omega arith in
          not (subst P same here)
    ])
  ]
]

pub list_cases : (xs ys : List ℕ) → (xs ≡ ys) ⊎ (xs ≡ ys → ⊥)
list_cases [] [] = inl refl
list_cases [] (y ∷ ys) = inr (λ e. cc)
list_cases (x ∷ xs) [] = inr (λ e. cc)
list_cases (x ∷ xs) (y ∷ ys) = elim (cases_eq x y) [
  | inr not ↦ inr (λ e. let head : x ≡ y = cc in not head)
  | inl here ↦ elim (list_cases xs ys) [
    | inl further ↦ inl (cc)
    | inr not ↦ inr (λ e. let tail : xs ≡ ys = cc in not tail)
  ]
]

-- a word with a space before it, of one sign
signed_cases : (minus : Bool) (text : List ℕ) → ((word : Word) × (text ≡ 32 ∷ spelling word))
    ⊎ ((word : Word) → word.minus ≡ minus → text ≡ 32 ∷ spelling word → ⊥)
signed_cases minus text =
    let Is : ℕ → Type 0 = λ n. text ≡ 32 ∷ cond minus 45 43 ∷ digits_of 10 n in
    elim (least_or_none Is (λ n. list_cases text (32 ∷ cond minus 45 43 ∷ digits_of 10 n)) 0 (10 ^ 10)) [
      | inl found ↦ inl (record { minus = minus; digits = found.0; ten = omega (arith, found.2) }, found.3)
      | inr none ↦ inr (λ word same is. none word.digits (omega arith) (omega (arith, word.ten))
          (subst (λ (m : Bool). text ≡ 32 ∷ cond m 45 43 ∷ digits_of 10 word.digits) same is))
    ]

-- and of any
word_cases : (text : List ℕ) → ((word : Word) × (text ≡ 32 ∷ spelling word))
    ⊎ ((word : Word) → text ≡ 32 ∷ spelling word → ⊥)
word_cases text = elim (signed_cases true text) [
  | inl found ↦ inl found
  | inr no_minus ↦ elim (signed_cases false text) [
    | inl found ↦ inl found
    | inr no_plus ↦ inr (λ word is. either word.minus refl (λ same. no_minus word same is)
        (λ same. no_plus word same is))
  ]
]
  where
    either : (b : Bool) {c : Bool} → c ≡ b → (c ≡ true → ⊥) → (c ≡ false → ⊥) → ⊥
    either true e p q = p e
    either false e p q = q e

length-word : (word : Word) → length (32 ∷ spelling word) ≡ 12
length-word word = ap suc (length-spelling word)

-- `count` words, each with a space before it
pub words_cases : (count : ℕ) (text : List ℕ) → ((words : List Word) × (length words ≡ count) × (text ≡ spaced words))
    ⊎ ((words : List Word) → length words ≡ count → text ≡ spaced words → ⊥)
words_cases zero [] = inl ([], refl, refl)
words_cases zero (byte ∷ text) = inr none
  where
    none : (words : List Word) → length words ≡ zero → byte ∷ text ≡ spaced words → ⊥
    none [] count is = cc
    none (word ∷ words) count is = omega arith
words_cases (suc count) text = elim (word_cases (take 12 text)) [
  | inr none ↦ inr (no_first none)
  | inl first ↦ elim (words_cases count (drop 12 text)) [
    | inl further ↦ inl (
      first.0 ∷ further.0,
      ap suc further.1,
      sym (take-append-drop 12 text)
          ∙ ap (λ (xs : List ℕ). xs ++ drop 12 text) first.1
          ∙ ap (λ (xs : List ℕ). (32 ∷ spelling first.0) ++ xs) further.2,
    )
    | inr none ↦ inr (no_more none)
  ]
]
  where
    split : (word : Word) (words : List Word) → text ≡ spaced (word ∷ words) → (take 12 text ≡ 32 ∷ spelling word)
        × (drop 12 text ≡ spaced words)
    split word words is = (
      ap (take 12) is ∙ ap (λ n. take n ((32 ∷ spelling word) ++ spaced words)) (sym (length-word word))
          ∙ take-append_seam (32 ∷ spelling word) (spaced words),
      ap (drop 12) is ∙ ap (λ n. drop n ((32 ∷ spelling word) ++ spaced words)) (sym (length-word word))
          ∙ drop-append_seam (32 ∷ spelling word) (spaced words),
    )

    no_first : ((word : Word) → take 12 text ≡ 32 ∷ spelling word → ⊥) → (words : List Word) → length words ≡ suc count
        → text ≡ spaced words → ⊥
    no_first none [] same is = omega arith
    no_first none (word ∷ words) same is = none word (split word words is).0

    no_more : ((words : List Word) → length words ≡ count → drop 12 text ≡ spaced words → ⊥) → (words : List Word)
        → length words ≡ suc count → text ≡ spaced words → ⊥
    no_more none [] same is = omega arith
    no_more none (word ∷ words) same is = none words (omega arith) (split word words is).1

pub comment_cases : (text : List ℕ) → IsLine text comment ⊎ (IsLine text comment → ⊥)
comment_cases [] = inr (λ is. let e : [] ≡ 42 ∷ is.0 = is.1 in cc)
comment_cases (byte ∷ rest) = elim (cases_eq byte 42) [
  | inl same ↦ inl (rest, ap (λ (b : ℕ). b ∷ rest) same)
  | inr not ↦ inr (λ is. let head : byte ≡ 42 = cc (is.1) in not head)
]

start_cases : (text : List ℕ) → ((n : ℕ) × IsLine text (start n)) ⊎ ((n : ℕ) → IsLine text (start n) → ⊥)
start_cases text = elim (least_or_none (λ n. text ≡ codes "START " ++ digits_of 4 n)
    (λ n. list_cases text (codes "START " ++ digits_of 4 n)) 0 (10 ^ 4)) [
      | inl found ↦ inl (found.0, (omega (arith, found.2), found.3))
      | inr none ↦ inr (λ n is. none n (omega arith) (omega (arith, is.0)) is.1)
    ]

pub card_cases : (text : List ℕ) → ((n : ℕ) × (words : List Word) × IsLine text (card n words))
    ⊎ ((n : ℕ) (words : List Word) → IsLine text (card n words) → ⊥)
card_cases text =
    let Words : ℕ → Type 0 = λ count. (words : List Word) × (length words ≡ count) × (drop 4 text ≡ spaced words) in
    elim (least_or_none (λ n. take 4 text ≡ digits_of 4 n) (λ n. list_cases (take 4 text) (digits_of 4 n)) 0 (10 ^ 4)) [
      | inr none ↦ inr (λ n words is. none n (omega arith) (omega (arith, is.0)) (split n words is).0)
      | inl first ↦ elim (least_or_none Words each 1 7) [
        | inr none ↦ inr (λ n words is. none (length words) is.1 (omega (arith, is.2)) (
          words,
          refl,
          (split n words is).1,
        ))
        | inl further ↦ inl (
          first.0,
          further.3.0,
          (
            omega (arith, first.2),
            omega (arith, further.1, further.3.1),
            omega (arith, further.2, further.3.1),
            sym (take-append-drop 4 text) ∙ ap (λ (xs : List ℕ). xs ++ drop 4 text) first.3
                ∙ ap (λ (xs : List ℕ). digits_of 4 first.0 ++ xs) further.3.2,
          ),
        )
      ]
    ]
  where
    each : (count : ℕ) → ((words : List Word) × (length words ≡ count) × (drop 4 text ≡ spaced words))
        ⊎ ((words : List Word) × (length words ≡ count) × (drop 4 text ≡ spaced words) → ⊥)
    each count = elim (words_cases count (drop 4 text)) [
      | inl found ↦ inl found
      | inr none ↦ inr (λ found. none found.0 found.1 found.2)
    ]

    split : (n : ℕ) (words : List Word) → IsLine text (card n words) → (take 4 text ≡ digits_of 4 n)
        × (drop 4 text ≡ spaced words)
    split n words is = (
      ap (take 4) is.3 ∙ ap (λ k. take k (digits_of 4 n ++ spaced words)) (sym (length-digits_of 4 n))
          ∙ take-append_seam (digits_of 4 n) (spaced words),
      ap (drop 4) is.3 ∙ ap (λ k. drop k (digits_of 4 n ++ spaced words)) (sym (length-digits_of 4 n))
          ∙ drop-append_seam (digits_of 4 n) (spaced words),
    )

pub line_cases : (text : List ℕ) → ((line : Line) × IsLine text line) ⊎ ((line : Line) → IsLine text line → ⊥)
line_cases text = elim (comment_cases text) [
  | inl is ↦ inl (comment, is)
  | inr no_comment ↦ elim (start_cases text) [
    | inl found ↦ inl (start found.0, found.1)
    | inr no_start ↦ elim (card_cases text) [
      | inl found ↦ inl (card found.0 found.1, found.2)
      | inr no_card ↦ inr (none no_comment no_start no_card)
    ]
  ]
]
  where
    none : (IsLine text comment → ⊥) → ((n : ℕ) → IsLine text (start n) → ⊥)
        → ((n : ℕ) (words : List Word) → IsLine text (card n words) → ⊥) → (line : Line) → IsLine text line → ⊥
    none no_comment no_start no_card comment is = no_comment is
    none no_comment no_start no_card (start n) is = no_start n is
    none no_comment no_start no_card (card n words) is = no_card n words is

long_cases : (longest : ℕ) (lines : List (List ℕ)) → Any (λ line. longest < length line) lines
    ⊎ (Any (λ line. longest < length line) lines → ⊥)
long_cases longest [] = inr (λ long. omega (arith, long.2))
long_cases longest (line ∷ lines) = elim (cases_lt longest (length line)) [
  | inl long ↦ inl (0, line, omega arith, refl, long)
  | inr short ↦ elim (long_cases longest lines) [
    | inl long ↦ inl (long_among longest line lines long)
    | inr none ↦ inr (λ long. none (long_behind longest line lines short long))
  ]
]

-- a text is longer, or it isn't
pub longer_or_not : (most longest : ℕ) (text : List ℕ) → IsLonger most longest text ⊎ (IsLonger most longest text → ⊥)
longer_or_not most longest text = elim (cases_lt most (length (lines_of text))) [
  | inl many ↦ inl (inl many)
  | inr few ↦ elim (long_cases longest (lines_of text)) [
    | inl long ↦ inl (inr long)
    | inr none ↦ inr (λ too_long. elim too_long [ inl many ↦ omega arith | inr long ↦ none long ])
  ]
]

-- Numbers that are read in two halves, and numbers of one text.
use Rattle.std.proofs.Common.{◌≡◌, ℕ, zero, suc, ◌+◌, ◌*◌, ◌^◌, ◌/◌, ◌%◌, ◌<◌, List, [], ◌∷◌, ◌++◌, length, take, drop}
use Rattle.std.proofs.Common.{ap, sym, ◌∙◌, subst, arith, append_assoc}
use Rattle.std.proofs.Math.Nat.{mul_assoc}
use Rattle.std.proofs.Math.Seq.{take-append_seam, drop-append_seam}
use Rattle.std.proofs.lemmas.Grind.{pow_more}
use Rattle.std.proofs.lemmas.List.{append-nil, length-take-le, length-drop, take-append-drop}
use Rattle.base_words.specs.Numeral.{digits_of}
use Rattle.base_words.proofs.Numerals.{length-digits_of}
use Rattle.read_decks.proofs.DeckLaws.{digits_of-one}

-- the digits of two numbers, one behind the other, are those of one number
pub digits_join : (k j a b : ℕ) → b < 10 ^ j → digits_of (k + j) (a * 10 ^ j + b) ≡ digits_of k a ++ digits_of j b
digits_join k zero a b small =
    let count : k + 0 ≡ k = omega arith in
    let same : a * 1 + b ≡ a = omega arith in
    ap (λ (i : ℕ). digits_of i (a * 1 + b)) count ∙ ap (digits_of k) same ∙ sym (append-nil (digits_of k a))
digits_join k (suc j) a b small =
    let next : suc j ≡ j + 1 = omega arith in
    let power : 10 ^ suc j ≡ 10 ^ j * 10 = ap (λ (i : ℕ). 10 ^ i) next ∙ pow_more 10 j in
    let all : a * 10 ^ suc j + b ≡ (a * 10 ^ j + b / 10) * 10 + b % 10 = ten_times a (10 ^ j) (10 ^ suc j) b power in
    let prefix : (a * 10 ^ suc j + b) / 10 ≡ a * 10 ^ j + b / 10 = omega (arith, all) in
    let last : (a * 10 ^ suc j + b) % 10 ≡ b % 10 = omega (arith, all) in
    let count : k + suc j ≡ suc (k + j) = omega arith in
    ap (λ (i : ℕ). digits_of i (a * 10 ^ suc j + b)) count
    ∙ ap (λ (n : ℕ). digits_of (k + j) n ++ (48 + (a * 10 ^ suc j + b) % 10) ∷ []) prefix
    ∙ ap (λ (d : ℕ). digits_of (k + j) (a * 10 ^ j + b / 10) ++ (48 + d) ∷ []) last
    ∙ ap (λ (xs : List ℕ). xs ++ (48 + b % 10) ∷ []) (digits_join k j a (b / 10) (omega (arith, power)))
    ∙ append_assoc (digits_of k a) (digits_of j (b / 10)) ((48 + b % 10) ∷ [])
  where
    ten_times : (a p q b : ℕ) → q ≡ p * 10 → a * q + b ≡ (a * p + b / 10) * 10 + b % 10
    ten_times a p q b e =
        let inner : a * q ≡ a * p * 10 = ap (λ (x : ℕ). a * x) e ∙ sym (mul_assoc a p 10) in
        omega (arith, inner)

-- a text writes one number
pub same_number : (text : List ℕ) (k n m : ℕ) → text ≡ digits_of k n → n < 10 ^ k → text ≡ digits_of (length text) m
    → m < 10 ^ length text → n ≡ m
same_number text k n m e small e' small' =
    let long : length text ≡ k = ap length e ∙ length-digits_of k n in
    let other : text ≡ digits_of k m = subst (λ (i : ℕ). text ≡ digits_of i m) long e' in
    digits_of-one k n m small (subst (λ (i : ℕ). m < 10 ^ i) long small') (sym e ∙ other)

-- a number of as many digits as the text has bytes
pub at_length : (text : List ℕ) (k n : ℕ) → text ≡ digits_of k n → text ≡ digits_of (length text) n
at_length text k n e = e ∙ ap (λ (i : ℕ). digits_of i n) (sym (ap length e ∙ length-digits_of k n))

-- the halves of twenty digits
pub halves : (text : List ℕ) (n : ℕ) → text ≡ digits_of 20 n → (take 10 text ≡ digits_of 10 (n / 10 ^ 10))
    × (drop 10 text ≡ digits_of 10 (n % 10 ^ 10))
halves text n written =
    let upper : ℕ = n / 10 ^ 10 in
    let lower : ℕ = n % 10 ^ 10 in
    let small : lower < 10 ^ 10 = omega arith in
    let all : n ≡ upper * 10 ^ 10 + lower = omega arith in
    let split : text ≡ digits_of 10 upper ++ digits_of 10 lower =
    written ∙ ap (digits_of 20) all ∙ digits_join 10 10 upper lower small in
    let ten : length (digits_of 10 upper) ≡ 10 = length-digits_of 10 upper in (
      ap (take 10) split ∙ sym (ap (λ (i : ℕ). take i (digits_of 10 upper ++ digits_of 10 lower)) ten)
          ∙ take-append_seam (digits_of 10 upper) (digits_of 10 lower),
      ap (drop 10) split ∙ sym (ap (λ (i : ℕ). drop i (digits_of 10 upper ++ digits_of 10 lower)) ten)
          ∙ drop-append_seam (digits_of 10 upper) (digits_of 10 lower),
    )

-- the number of two halves
pub whole : (text behind : List ℕ) (a b : ℕ) → length text ≡ 20 → behind ≡ drop 10 text
    → take 10 text ≡ digits_of (length (take 10 text)) a
    → behind ≡ digits_of (length behind) b → b < 10 ^ length behind → text ≡ digits_of 20 (a * 10 ^ 10 + b)
whole text behind a b long is_behind upper lower small =
    let ten : length (take 10 text) ≡ 10 = length-take-le 10 text (omega (arith, long)) in
    let ten' : length behind ≡ 10 = ap length is_behind ∙ omega (arith, length-drop 10 text, long) in
    let prefix : take 10 text ≡ digits_of 10 a = upper ∙ ap (λ (i : ℕ). digits_of i a) ten in
    let back : drop 10 text ≡ digits_of 10 b = sym is_behind ∙ lower ∙ ap (λ (i : ℕ). digits_of i b) ten' in
    let few : b < 10 ^ 10 = subst (λ (i : ℕ). b < 10 ^ i) ten' small in
    sym (take-append-drop 10 text) ∙ ap (λ (xs : List ℕ). xs ++ drop 10 text) prefix
    ∙ ap (λ (xs : List ℕ). digits_of 10 a ++ xs) back ∙ sym (digits_join 10 10 a b few)

-- Laws of deck text: a line says one thing, and a text has one fault.
use Rattle.std.proofs.Common.{◌≡◌, ℕ, zero, suc, ◌+◌, ◌*◌, ◌/◌, ◌%◌, ◌^◌, ◌<◌, ◌≤◌, Bool, true, false, cond, List, []}
use Rattle.std.proofs.Common.{◌∷◌, ◌++◌, length, get_or, take, drop, refl, ap, sym, ◌∙◌, subst, arith}
use Rattle.std.proofs.Math.ListN.{get_or-append}
use Rattle.std.proofs.Math.Seq.{take-append_seam, drop-append_seam}
use Rattle.std.proofs.lemmas.Grind.{pow_more}
use Rattle.base_words.proofs.Same.{same_word}
use Rattle.base_words.specs.declared.word.Word.{Word}
use Rattle.read_decks.specs.DeckText.{Line, comment, start, card, IsLine}
use Rattle.base_words.specs.Numeral.{digits_of}
use Rattle.base_words.specs.Word.{spelling, spaced}
use Rattle.base_words.proofs.Numerals.{length-digits_of, digit_at}

-- prefixes of one length
pub same_prefix : {A : Type 0} (xs xs' ys ys' : List A) → length xs ≡ length xs' → xs ++ ys ≡ xs' ++ ys'
    → (xs ≡ xs') × (ys ≡ ys')
same_prefix xs xs' ys ys' long e = (
  sym (take-append_seam xs ys) ∙ ap (take (length xs)) e ∙ ap (λ n. take n (xs' ++ ys')) long
      ∙ take-append_seam xs' ys',
  sym (drop-append_seam xs ys) ∙ ap (drop (length xs)) e ∙ ap (λ n. drop n (xs' ++ ys')) long
      ∙ drop-append_seam xs' ys',
)

-- the digits of a number determine it
pub digits_of-one : (k a b : ℕ) → a < 10 ^ k → b < 10 ^ k → digits_of k a ≡ digits_of k b → a ≡ b
digits_of-one zero a b h h' e = omega arith
digits_of-one (suc k) a b h h' e =
    let parts =
    same_prefix (digits_of k (a / 10)) (digits_of k (b / 10)) ((48 + a % 10) ∷ []) ((48 + b % 10) ∷ [])
    (length-digits_of k (a / 10) ∙ sym (length-digits_of k (b / 10))) e in
    let last : 48 + a % 10 ≡ 48 + b % 10 = ap (λ xs. get_or xs 0 0) parts.1 in
    let power : 10 ^ (k + 1) ≡ 10 ^ k * 10 = pow_more 10 k in
    let next : suc k ≡ k + 1 = omega arith in
    let h1 : a < 10 ^ (k + 1) = subst (λ (n : ℕ). a < 10 ^ n) next h in
    let h2 : b < 10 ^ (k + 1) = subst (λ (n : ℕ). b < 10 ^ n) next h' in
    let prefix : a / 10 ≡ b / 10 = digits_of-one k (a / 10) (b / 10) (omega arith) (omega arith) parts.0 in
    omega arith

abbrev sign_of : Bool → ℕ
sign_of minus = cond minus 45 43

-- a word's text is that of no other
pub spelling-one : (v w : Word) → spelling v ≡ spelling w → v ≡ w
spelling-one v w e =
    let sign : sign_of v.minus ≡ sign_of w.minus = ap (λ xs. get_or xs 0 0) e in
    let minus : v.minus ≡ w.minus = one_sign v.minus w.minus sign in
    let digits : digits_of 10 v.digits ≡ digits_of 10 w.digits = ap (drop 1) e in
    same_word v w minus (digits_of-one 10 v.digits w.digits v.ten w.ten digits)
  where
    one_sign : (a b : Bool) → sign_of a ≡ sign_of b → a ≡ b
    one_sign true true h = refl
    one_sign false false h = refl
    one_sign true false h = absurd (omega (arith, h))
    one_sign false true h = absurd (omega (arith, h))

pub length-spelling : (w : Word) → length (spelling w) ≡ 11
length-spelling w = ap suc (length-digits_of 10 w.digits)

pub spaced-one : (vs ws : List Word) → spaced vs ≡ spaced ws → vs ≡ ws
spaced-one [] [] e = refl
spaced-one [] (w ∷ ws) e = cc
spaced-one (v ∷ vs) [] e = cc
spaced-one (v ∷ vs) (w ∷ ws) e =
    let long : length (32 ∷ spelling v) ≡ length (32 ∷ spelling w) =
    ap suc (length-spelling v ∙ sym (length-spelling w)) in
    let parts = same_prefix (32 ∷ spelling v) (32 ∷ spelling w) (spaced vs) (spaced ws) long e in
    let here : v ≡ w = spelling-one v w (ap (drop 1) parts.0) in
    let further : vs ≡ ws = spaced-one vs ws parts.1 in
    cc

-- four digits begin with a digit
first_digit : (n : ℕ) (rest : List ℕ) → (48 ≤ get_or (digits_of 4 n ++ rest) 0 0)
    × (get_or (digits_of 4 n ++ rest) 0 0 ≤ 57)
first_digit n rest =
    let some : 0 < length (digits_of 4 n) = omega (arith, length-digits_of 4 n) in
    rw get_or-append (digit_at 4 n 0 (omega arith))

-- a line says one thing
pub line_one : (text : List ℕ) (a b : Line) → IsLine text a → IsLine text b → a ≡ b
line_one text comment comment p q = refl
line_one text (start n) (start m) p q =
    let same : digits_of 4 n ≡ digits_of 4 m = ap (drop 6) (sym p.1 ∙ q.1) in
    ap start (digits_of-one 4 n m p.0 q.0 same)
line_one text (card n vs) (card m ws) p q =
    let parts =
    same_prefix (digits_of 4 n) (digits_of 4 m) (spaced vs) (spaced ws)
    (length-digits_of 4 n ∙ sym (length-digits_of 4 m)) (sym p.3 ∙ q.3) in
    let at : n ≡ m = digits_of-one 4 n m p.0 q.0 parts.0 in
    let words : vs ≡ ws = spaced-one vs ws parts.1 in
    cc
line_one text comment (start m) p q = absurd (omega (arith, ap (λ xs. get_or xs 0 0) (sym p.1 ∙ q.1)))
line_one text (start n) comment p q = absurd (omega (arith, ap (λ xs. get_or xs 0 0) (sym p.1 ∙ q.1)))
line_one text comment (card m ws) p q =
    absurd (omega (arith, ap (λ xs. get_or xs 0 0) (sym p.1 ∙ q.3), first_digit m (spaced ws)))
line_one text (card n vs) comment p q =
    absurd (omega (arith, ap (λ xs. get_or xs 0 0) (sym q.1 ∙ p.3), first_digit n (spaced vs)))
line_one text (start n) (card m ws) p q =
    absurd (omega (arith, ap (λ xs. get_or xs 0 0) (sym p.1 ∙ q.3), first_digit m (spaced ws)))
line_one text (card n vs) (start m) p q =
    absurd (omega (arith, ap (λ xs. get_or xs 0 0) (sym q.1 ∙ p.3), first_digit n (spaced vs)))

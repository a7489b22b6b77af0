-- A line says one thing.
use Rattle.std.proofs.Common.{◌≡◌, ℕ, ◌+◌, ◌/◌, ◌%◌, ◌^◌, ◌<◌, ltb, Bool, true, false, cond, List, length, get_or, drop}
use Rattle.std.proofs.Common.{refl, ap, sym, ◌∙◌, subst, arith, ℤ}
use Rattle.std.proofs.lemmas.Bool.{lt-ltb}
use Rattle.std.specs.Prelude.{◌==◌}
use Rattle.read_decks.specs.DeckText as deck
use Rattle.base_words.specs.Numeral.{digits_of}
use Rattle.base_words.specs.Word.{signed}
use Rattle.read_decks.proofs.DeckLaws as decks
use Rattle.base_words.proofs.Numerals.{length-digits_of}
use Rattle.read_replays.specs.InputsText.{Line, comment, angle, switches, distributor, accumulator, latch, programmed}
use Rattle.read_replays.specs.InputsText.{on_overflow, words, card, wait, IsLine}
use Rattle.read_replays.proofs.Halves.{same_number, at_length}

-- a number for each kind of line, and for each first letters of a line
abbrev kind : Line → ℕ
kind comment = 0
kind (words n ws) = 1
kind (angle n) = 2
kind (accumulator a) = 3
kind (switches w) = 4
kind (distributor w) = 5
kind (latch b) = 6
kind (card true ws) = 7
kind (programmed b) = 8
kind (on_overflow b) = 9
kind (card false ws) = 10
kind (wait n) = 11

abbrev kind_by : ℕ → ℕ → ℕ
kind_by first second =
    cond (ltb 47 first) (cond (ltb first 58) 1
    (cond (first == 65) (cond (second == 78) 2 3)
    (cond (first == 83) 4 (cond (first == 68) 5 (cond (first == 76) (cond (second == 65) 6 7)
    (cond (first == 80) 8 (cond (first == 79) 9 (cond (first == 67) 10 11)))))))) 0

abbrev kind_at : List ℕ → ℕ
kind_at text = kind_by (get_or text 0 0) (get_or text 1 0)

digit_kind : (first second : ℕ) → 47 < first → first < 58 → kind_by first second ≡ 1
digit_kind first second low high = rw (lt-ltb 47 first low) (rw (lt-ltb first 58 high) refl)

kind_is : (text : List ℕ) (line : Line) → IsLine text line → kind_at text ≡ kind line
kind_is text comment p = ap kind_at p.1
kind_is text (words n ws) p =
    ap kind_at p.3 ∙ digit_kind (48 + n / 10 / 10 / 10 % 10) (48 + n / 10 / 10 % 10) (omega arith) (omega arith)
kind_is text (angle n) p = ap kind_at p.1
kind_is text (accumulator a) p = ap kind_at p.4
kind_is text (switches w) p = ap kind_at p
kind_is text (distributor w) p = ap kind_at p
kind_is text (latch true) p = ap kind_at p
kind_is text (latch false) p = ap kind_at p
kind_is text (card true ws) p = ap kind_at p.1
kind_is text (programmed true) p = ap kind_at p
kind_is text (programmed false) p = ap kind_at p
kind_is text (on_overflow true) p = ap kind_at p
kind_is text (on_overflow false) p = ap kind_at p
kind_is text (card false ws) p = ap kind_at p.1
kind_is text (wait n) p = ap kind_at p.5

kinds : (text : List ℕ) (a b : Line) → IsLine text a → IsLine text b → kind a ≡ kind b
kinds text a b p q = sym (kind_is text a p) ∙ kind_is text b q

abbrev sign_of : Bool → ℕ
sign_of minus = cond minus 45 43

one_sign : (b c : Bool) → sign_of b ≡ sign_of c → b ≡ c
one_sign true true e = refl
one_sign false false e = refl
one_sign true false e = absurd (omega (arith, e))
one_sign false true e = absurd (omega (arith, e))

-- the byte of an index, of two texts that are one
byte : {xs ys text : List ℕ} (i : ℕ) → text ≡ xs → text ≡ ys → get_or xs i 0 ≡ get_or ys i 0
byte i p q = ap (λ text. get_or text i 0) (sym p ∙ q)

one_accumulator : (text : List ℕ) (a b : ℤ) → IsLine text (accumulator a) → IsLine text (accumulator b) → a ≡ b
one_accumulator text a b (minus, n, small, is_a, p) (minus', m, small', is_b, q) =
    let sign : minus ≡ minus' = one_sign minus minus' (byte 12 p q) in
    let digits : digits_of 20 n ≡ digits_of 20 m = ap (drop 13) (sym p ∙ q) in
    let number : n ≡ m = decks.digits_of-one 20 n m small small' digits in
    is_a ∙ ap (λ (s : Bool). signed s n) sign ∙ ap (signed minus') number ∙ sym is_b

one_wait : (text : List ℕ) (n m : ℕ) → IsLine text (wait n) → IsLine text (wait m) → n ≡ m
one_wait text n m (count, some, seven, small, million, p) (count', some', seven', small', million', q) =
    let digits : digits_of count n ≡ digits_of count' m = ap (drop 5) (sym p ∙ q) in
    let long : length (digits_of count n) ≡ count' =
    ap (λ (xs : List ℕ). length xs) digits ∙ length-digits_of count' m in
    same_number (digits_of count n) count n m refl small (at_length (digits_of count n) count' m digits)
    (subst (λ (k : ℕ). m < 10 ^ k) (sym long) small')

-- a line says one thing
pub line_one : (text : List ℕ) (a b : Line) → IsLine text a → IsLine text b → a ≡ b
line_one text comment comment p q = refl
line_one text (angle n) (angle m) p q =
    let digits : digits_of 2 n ≡ digits_of 2 m = ap (drop 6) (sym p.1 ∙ q.1) in
    ap angle (decks.digits_of-one 2 n m (omega (arith, p.0)) (omega (arith, q.0)) digits)
line_one text (switches v) (switches w) p q = ap switches (decks.spelling-one v w (ap (drop 9) (sym p ∙ q)))
line_one text (distributor v) (distributor w) p q = ap distributor (decks.spelling-one v w (ap (drop 12) (sym p ∙ q)))
line_one text (accumulator a) (accumulator a') p q = ap accumulator (one_accumulator text a a' p q)
line_one text (latch true) (latch true) p q = refl
line_one text (latch false) (latch false) p q = refl
line_one text (latch true) (latch false) p q = absurd (omega (arith, byte 7 p q))
line_one text (latch false) (latch true) p q = absurd (omega (arith, byte 7 p q))
line_one text (programmed true) (programmed true) p q = refl
line_one text (programmed false) (programmed false) p q = refl
line_one text (programmed true) (programmed false) p q = absurd (omega (arith, byte 11 p q))
line_one text (programmed false) (programmed true) p q = absurd (omega (arith, byte 11 p q))
line_one text (on_overflow true) (on_overflow true) p q = refl
line_one text (on_overflow false) (on_overflow false) p q = refl
line_one text (on_overflow true) (on_overflow false) p q = absurd (omega (arith, byte 12 p q))
line_one text (on_overflow false) (on_overflow true) p q = absurd (omega (arith, byte 12 p q))
line_one text (words n vs) (words m ws) p q =
    let same : deck.card n vs ≡ deck.card m ws = decks.line_one text (deck.card n vs) (deck.card m ws) p q in
    cc
line_one text (card true vs) (card true ws) p q = ap (card true) (decks.spaced-one vs ws (ap (drop 4) (sym p.1 ∙ q.1)))
line_one text (card false vs) (card false ws) p q =
    ap (card false) (decks.spaced-one vs ws (ap (drop 4) (sym p.1 ∙ q.1)))
line_one text (wait n) (wait m) p q = ap wait (one_wait text n m p q)
-- lines of two kinds have other first letters
line_one text comment (words m ws) p q = absurd (omega (arith, kinds text comment (words m ws) p q))
line_one text comment (angle m) p q = absurd (omega (arith, kinds text comment (angle m) p q))
line_one text comment (accumulator a') p q = absurd (omega (arith, kinds text comment (accumulator a') p q))
line_one text comment (switches w) p q = absurd (omega (arith, kinds text comment (switches w) p q))
line_one text comment (distributor w) p q = absurd (omega (arith, kinds text comment (distributor w) p q))
line_one text comment (latch b') p q = absurd (omega (arith, kinds text comment (latch b') p q))
line_one text comment (card true ws) p q = absurd (omega (arith, kinds text comment (card true ws) p q))
line_one text comment (programmed b') p q = absurd (omega (arith, kinds text comment (programmed b') p q))
line_one text comment (on_overflow b') p q = absurd (omega (arith, kinds text comment (on_overflow b') p q))
line_one text comment (card false ws) p q = absurd (omega (arith, kinds text comment (card false ws) p q))
line_one text comment (wait m) p q = absurd (omega (arith, kinds text comment (wait m) p q))
line_one text (words n vs) comment p q = absurd (omega (arith, kinds text (words n vs) comment p q))
line_one text (words n vs) (angle m) p q = absurd (omega (arith, kinds text (words n vs) (angle m) p q))
line_one text (words n vs) (accumulator a') p q = absurd (omega (arith, kinds text (words n vs) (accumulator a') p q))
line_one text (words n vs) (switches w) p q = absurd (omega (arith, kinds text (words n vs) (switches w) p q))
line_one text (words n vs) (distributor w) p q = absurd (omega (arith, kinds text (words n vs) (distributor w) p q))
line_one text (words n vs) (latch b') p q = absurd (omega (arith, kinds text (words n vs) (latch b') p q))
line_one text (words n vs) (card true ws) p q = absurd (omega (arith, kinds text (words n vs) (card true ws) p q))
line_one text (words n vs) (programmed b') p q = absurd (omega (arith, kinds text (words n vs) (programmed b') p q))
line_one text (words n vs) (on_overflow b') p q = absurd (omega (arith, kinds text (words n vs) (on_overflow b') p q))
line_one text (words n vs) (card false ws) p q = absurd (omega (arith, kinds text (words n vs) (card false ws) p q))
line_one text (words n vs) (wait m) p q = absurd (omega (arith, kinds text (words n vs) (wait m) p q))
line_one text (angle n) comment p q = absurd (omega (arith, kinds text (angle n) comment p q))
line_one text (angle n) (words m ws) p q = absurd (omega (arith, kinds text (angle n) (words m ws) p q))
line_one text (angle n) (accumulator a') p q = absurd (omega (arith, kinds text (angle n) (accumulator a') p q))
line_one text (angle n) (switches w) p q = absurd (omega (arith, kinds text (angle n) (switches w) p q))
line_one text (angle n) (distributor w) p q = absurd (omega (arith, kinds text (angle n) (distributor w) p q))
line_one text (angle n) (latch b') p q = absurd (omega (arith, kinds text (angle n) (latch b') p q))
line_one text (angle n) (card true ws) p q = absurd (omega (arith, kinds text (angle n) (card true ws) p q))
line_one text (angle n) (programmed b') p q = absurd (omega (arith, kinds text (angle n) (programmed b') p q))
line_one text (angle n) (on_overflow b') p q = absurd (omega (arith, kinds text (angle n) (on_overflow b') p q))
line_one text (angle n) (card false ws) p q = absurd (omega (arith, kinds text (angle n) (card false ws) p q))
line_one text (angle n) (wait m) p q = absurd (omega (arith, kinds text (angle n) (wait m) p q))
line_one text (accumulator a) comment p q = absurd (omega (arith, kinds text (accumulator a) comment p q))
line_one text (accumulator a) (words m ws) p q = absurd (omega (arith, kinds text (accumulator a) (words m ws) p q))
line_one text (accumulator a) (angle m) p q = absurd (omega (arith, kinds text (accumulator a) (angle m) p q))
line_one text (accumulator a) (switches w) p q = absurd (omega (arith, kinds text (accumulator a) (switches w) p q))
line_one text (accumulator a) (distributor w) p q =
    absurd (omega (arith, kinds text (accumulator a) (distributor w) p q))
line_one text (accumulator a) (latch b') p q = absurd (omega (arith, kinds text (accumulator a) (latch b') p q))
line_one text (accumulator a) (card true ws) p q = absurd (omega (arith, kinds text (accumulator a) (card true ws) p q))
line_one text (accumulator a) (programmed b') p q =
    absurd (omega (arith, kinds text (accumulator a) (programmed b') p q))
line_one text (accumulator a) (on_overflow b') p q =
    absurd (omega (arith, kinds text (accumulator a) (on_overflow b') p q))
line_one text (accumulator a) (card false ws) p q =
    absurd (omega (arith, kinds text (accumulator a) (card false ws) p q))
line_one text (accumulator a) (wait m) p q = absurd (omega (arith, kinds text (accumulator a) (wait m) p q))
line_one text (switches v) comment p q = absurd (omega (arith, kinds text (switches v) comment p q))
line_one text (switches v) (words m ws) p q = absurd (omega (arith, kinds text (switches v) (words m ws) p q))
line_one text (switches v) (angle m) p q = absurd (omega (arith, kinds text (switches v) (angle m) p q))
line_one text (switches v) (accumulator a') p q = absurd (omega (arith, kinds text (switches v) (accumulator a') p q))
line_one text (switches v) (distributor w) p q = absurd (omega (arith, kinds text (switches v) (distributor w) p q))
line_one text (switches v) (latch b') p q = absurd (omega (arith, kinds text (switches v) (latch b') p q))
line_one text (switches v) (card true ws) p q = absurd (omega (arith, kinds text (switches v) (card true ws) p q))
line_one text (switches v) (programmed b') p q = absurd (omega (arith, kinds text (switches v) (programmed b') p q))
line_one text (switches v) (on_overflow b') p q = absurd (omega (arith, kinds text (switches v) (on_overflow b') p q))
line_one text (switches v) (card false ws) p q = absurd (omega (arith, kinds text (switches v) (card false ws) p q))
line_one text (switches v) (wait m) p q = absurd (omega (arith, kinds text (switches v) (wait m) p q))
line_one text (distributor v) comment p q = absurd (omega (arith, kinds text (distributor v) comment p q))
line_one text (distributor v) (words m ws) p q = absurd (omega (arith, kinds text (distributor v) (words m ws) p q))
line_one text (distributor v) (angle m) p q = absurd (omega (arith, kinds text (distributor v) (angle m) p q))
line_one text (distributor v) (accumulator a') p q =
    absurd (omega (arith, kinds text (distributor v) (accumulator a') p q))
line_one text (distributor v) (switches w) p q = absurd (omega (arith, kinds text (distributor v) (switches w) p q))
line_one text (distributor v) (latch b') p q = absurd (omega (arith, kinds text (distributor v) (latch b') p q))
line_one text (distributor v) (card true ws) p q = absurd (omega (arith, kinds text (distributor v) (card true ws) p q))
line_one text (distributor v) (programmed b') p q =
    absurd (omega (arith, kinds text (distributor v) (programmed b') p q))
line_one text (distributor v) (on_overflow b') p q =
    absurd (omega (arith, kinds text (distributor v) (on_overflow b') p q))
line_one text (distributor v) (card false ws) p q =
    absurd (omega (arith, kinds text (distributor v) (card false ws) p q))
line_one text (distributor v) (wait m) p q = absurd (omega (arith, kinds text (distributor v) (wait m) p q))
line_one text (latch b) comment p q = absurd (omega (arith, kinds text (latch b) comment p q))
line_one text (latch b) (words m ws) p q = absurd (omega (arith, kinds text (latch b) (words m ws) p q))
line_one text (latch b) (angle m) p q = absurd (omega (arith, kinds text (latch b) (angle m) p q))
line_one text (latch b) (accumulator a') p q = absurd (omega (arith, kinds text (latch b) (accumulator a') p q))
line_one text (latch b) (switches w) p q = absurd (omega (arith, kinds text (latch b) (switches w) p q))
line_one text (latch b) (distributor w) p q = absurd (omega (arith, kinds text (latch b) (distributor w) p q))
line_one text (latch b) (card true ws) p q = absurd (omega (arith, kinds text (latch b) (card true ws) p q))
line_one text (latch b) (programmed b') p q = absurd (omega (arith, kinds text (latch b) (programmed b') p q))
line_one text (latch b) (on_overflow b') p q = absurd (omega (arith, kinds text (latch b) (on_overflow b') p q))
line_one text (latch b) (card false ws) p q = absurd (omega (arith, kinds text (latch b) (card false ws) p q))
line_one text (latch b) (wait m) p q = absurd (omega (arith, kinds text (latch b) (wait m) p q))
line_one text (card true vs) comment p q = absurd (omega (arith, kinds text (card true vs) comment p q))
line_one text (card true vs) (words m ws) p q = absurd (omega (arith, kinds text (card true vs) (words m ws) p q))
line_one text (card true vs) (angle m) p q = absurd (omega (arith, kinds text (card true vs) (angle m) p q))
line_one text (card true vs) (accumulator a') p q =
    absurd (omega (arith, kinds text (card true vs) (accumulator a') p q))
line_one text (card true vs) (switches w) p q = absurd (omega (arith, kinds text (card true vs) (switches w) p q))
line_one text (card true vs) (distributor w) p q = absurd (omega (arith, kinds text (card true vs) (distributor w) p q))
line_one text (card true vs) (latch b') p q = absurd (omega (arith, kinds text (card true vs) (latch b') p q))
line_one text (card true vs) (programmed b') p q = absurd (omega (arith, kinds text (card true vs) (programmed b') p q))
line_one text (card true vs) (on_overflow b') p q =
    absurd (omega (arith, kinds text (card true vs) (on_overflow b') p q))
line_one text (card true vs) (card false ws) p q = absurd (omega (arith, kinds text (card true vs) (card false ws) p q))
line_one text (card true vs) (wait m) p q = absurd (omega (arith, kinds text (card true vs) (wait m) p q))
line_one text (programmed b) comment p q = absurd (omega (arith, kinds text (programmed b) comment p q))
line_one text (programmed b) (words m ws) p q = absurd (omega (arith, kinds text (programmed b) (words m ws) p q))
line_one text (programmed b) (angle m) p q = absurd (omega (arith, kinds text (programmed b) (angle m) p q))
line_one text (programmed b) (accumulator a') p q =
    absurd (omega (arith, kinds text (programmed b) (accumulator a') p q))
line_one text (programmed b) (switches w) p q = absurd (omega (arith, kinds text (programmed b) (switches w) p q))
line_one text (programmed b) (distributor w) p q = absurd (omega (arith, kinds text (programmed b) (distributor w) p q))
line_one text (programmed b) (latch b') p q = absurd (omega (arith, kinds text (programmed b) (latch b') p q))
line_one text (programmed b) (card true ws) p q = absurd (omega (arith, kinds text (programmed b) (card true ws) p q))
line_one text (programmed b) (on_overflow b') p q =
    absurd (omega (arith, kinds text (programmed b) (on_overflow b') p q))
line_one text (programmed b) (card false ws) p q = absurd (omega (arith, kinds text (programmed b) (card false ws) p q))
line_one text (programmed b) (wait m) p q = absurd (omega (arith, kinds text (programmed b) (wait m) p q))
line_one text (on_overflow b) comment p q = absurd (omega (arith, kinds text (on_overflow b) comment p q))
line_one text (on_overflow b) (words m ws) p q = absurd (omega (arith, kinds text (on_overflow b) (words m ws) p q))
line_one text (on_overflow b) (angle m) p q = absurd (omega (arith, kinds text (on_overflow b) (angle m) p q))
line_one text (on_overflow b) (accumulator a') p q =
    absurd (omega (arith, kinds text (on_overflow b) (accumulator a') p q))
line_one text (on_overflow b) (switches w) p q = absurd (omega (arith, kinds text (on_overflow b) (switches w) p q))
line_one text (on_overflow b) (distributor w) p q =
    absurd (omega (arith, kinds text (on_overflow b) (distributor w) p q))
line_one text (on_overflow b) (latch b') p q = absurd (omega (arith, kinds text (on_overflow b) (latch b') p q))
line_one text (on_overflow b) (card true ws) p q = absurd (omega (arith, kinds text (on_overflow b) (card true ws) p q))
line_one text (on_overflow b) (programmed b') p q =
    absurd (omega (arith, kinds text (on_overflow b) (programmed b') p q))
line_one text (on_overflow b) (card false ws) p q =
    absurd (omega (arith, kinds text (on_overflow b) (card false ws) p q))
line_one text (on_overflow b) (wait m) p q = absurd (omega (arith, kinds text (on_overflow b) (wait m) p q))
line_one text (card false vs) comment p q = absurd (omega (arith, kinds text (card false vs) comment p q))
line_one text (card false vs) (words m ws) p q = absurd (omega (arith, kinds text (card false vs) (words m ws) p q))
line_one text (card false vs) (angle m) p q = absurd (omega (arith, kinds text (card false vs) (angle m) p q))
line_one text (card false vs) (accumulator a') p q =
    absurd (omega (arith, kinds text (card false vs) (accumulator a') p q))
line_one text (card false vs) (switches w) p q = absurd (omega (arith, kinds text (card false vs) (switches w) p q))
line_one text (card false vs) (distributor w) p q =
    absurd (omega (arith, kinds text (card false vs) (distributor w) p q))
line_one text (card false vs) (latch b') p q = absurd (omega (arith, kinds text (card false vs) (latch b') p q))
line_one text (card false vs) (card true ws) p q = absurd (omega (arith, kinds text (card false vs) (card true ws) p q))
line_one text (card false vs) (programmed b') p q =
    absurd (omega (arith, kinds text (card false vs) (programmed b') p q))
line_one text (card false vs) (on_overflow b') p q =
    absurd (omega (arith, kinds text (card false vs) (on_overflow b') p q))
line_one text (card false vs) (wait m) p q = absurd (omega (arith, kinds text (card false vs) (wait m) p q))
line_one text (wait n) comment p q = absurd (omega (arith, kinds text (wait n) comment p q))
line_one text (wait n) (words m ws) p q = absurd (omega (arith, kinds text (wait n) (words m ws) p q))
line_one text (wait n) (angle m) p q = absurd (omega (arith, kinds text (wait n) (angle m) p q))
line_one text (wait n) (accumulator a') p q = absurd (omega (arith, kinds text (wait n) (accumulator a') p q))
line_one text (wait n) (switches w) p q = absurd (omega (arith, kinds text (wait n) (switches w) p q))
line_one text (wait n) (distributor w) p q = absurd (omega (arith, kinds text (wait n) (distributor w) p q))
line_one text (wait n) (latch b') p q = absurd (omega (arith, kinds text (wait n) (latch b') p q))
line_one text (wait n) (card true ws) p q = absurd (omega (arith, kinds text (wait n) (card true ws) p q))
line_one text (wait n) (programmed b') p q = absurd (omega (arith, kinds text (wait n) (programmed b') p q))
line_one text (wait n) (on_overflow b') p q = absurd (omega (arith, kinds text (wait n) (on_overflow b') p q))
line_one text (wait n) (card false ws) p q = absurd (omega (arith, kinds text (wait n) (card false ws) p q))

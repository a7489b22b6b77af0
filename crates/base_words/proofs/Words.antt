-- The text of a word.
use Rattle.std.proofs.Common.{◌≡◌, ℕ, suc, ◌-◌, ◌≤◌, List, ◌∷◌, length, take, drop, refl, ap, ◌∙◌, arith}
use Rattle.std.proofs.lemmas.List.{take_all}
use Rattle.base_words.specs.Numeral.{digits_of}
use Rattle.base_words.proofs.Numerals.{length-digits_of}

-- behind its sign stand its digits
pub digits_behind : (text : List ℕ) (sign n : ℕ) → text ≡ sign ∷ digits_of 10 n
    → take (length text - 1) (drop 1 text) ≡ digits_of (length (take (length text - 1) (drop 1 text))) n
digits_behind text sign n e =
    let behind : drop 1 text ≡ digits_of 10 n = ap (drop 1) e in
    let long : length (digits_of 10 n) ≡ 10 = length-digits_of 10 n in
    let all : length text ≡ 11 = ap length e ∙ ap suc long in
    let enough : length (digits_of 10 n) ≤ length text - 1 = omega arith in
    let tail : take (length text - 1) (drop 1 text) ≡ digits_of 10 n = rw behind (take_all _ _ enough) in
    rw (tail, long) refl

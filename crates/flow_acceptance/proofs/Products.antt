-- The product of `most + 1` over marks.
use Rattle.std.proofs.Common.{◌≡◌, ℕ, zero, suc, ◌+◌, ◌*◌, ◌^◌, ◌<◌, ◌≤◌, List, ◌∷◌, length, get_or, drop, ap, sym, []}
use Rattle.std.proofs.Common.{◌∙◌, arith, inl, inr}
use Rattle.std.proofs.Math.Nat.{mul-le-mul_left, mul-le-mul_right, mul_assoc, mul-zero}
use Rattle.std.proofs.Math.Nat.{pow-succ'}
use Rattle.std.proofs.Math.Nat.{pow-le-pow_right, min-eq_left, min-le_left, min-le_right, min_comm}
use Rattle.std.proofs.lemmas.Bool.{cases_lt}
use Rattle.std.proofs.lemmas.List.{drop_more}
use Rattle.base_notes.specs.declared.notes.mark.Mark.{Mark}
use Rattle.flow_graph.specs.Accepted.{counts_of, capped}

-- there is one at least
pub counts_positive : (marks : List Mark) → 1 ≤ counts_of marks
counts_positive [] = omega arith
counts_positive (mark ∷ marks) = omega (arith, mul-le-mul_left (mark.most + 1) (counts_positive marks))

counts_bound : (marks : List Mark) → counts_of marks ≤ 10000 ^ length marks
counts_bound [] = omega arith
counts_bound (mark ∷ marks) =
    let most : mark.most + 1 ≤ 10000 = omega (arith, mark.four_digits) in
    let one : (mark.most + 1) * counts_of marks ≤ 10000 * counts_of marks = mul-le-mul_right (counts_of marks) most in
    let two : 10000 * counts_of marks ≤ 10000 * 10000 ^ length marks = mul-le-mul_left 10000 (counts_bound marks) in
    let power : 10000 ^ suc (length marks) ≡ 10000 * 10000 ^ length marks = pow-succ' 10000 (length marks) in
    rw power (omega (arith, one, two))

-- eight marks have no more counts than this
pub counts_few : (marks : List Mark) → length marks ≤ 8 → counts_of marks ≤ 10 ^ 32
counts_few marks few =
    let more : 10000 ^ length marks ≤ 10000 ^ 8 = pow-le-pow_right (omega arith) few in
    omega (arith, counts_bound marks, more)

-- a product below 2^127 is told as it is, and any other as 2^127
pub told_less : (n : ℕ) → n ≤ 2 ^ 127 → capped n ≡ n
told_less n low = min-eq_left low

pub told_past : (n : ℕ) → 2 ^ 127 ≤ n → capped n ≡ 2 ^ 127
told_past n high = min_comm n (2 ^ 127) ∙ min-eq_left high

pub told_low : (n told_n : ℕ) → told_n ≡ capped n → told_n ≤ 2 ^ 127
told_low n told_n is = omega (arith, is, min-le_right n (2 ^ 127))

-- a factor may be told before it is multiplied
pub told_first : (a b : ℕ) → capped (capped a * b) ≡ capped (a * b)
told_first a zero = ap capped (mul-zero (capped a) ∙ sym (mul-zero a))
told_first a (suc b) = elim (cases_lt a (2 ^ 127)) [
  | inl low ↦ ap (λ (n : ℕ). capped (n * suc b)) (told_less a (omega (arith, low)))
  | inr high ↦
      let some : 1 ≤ suc b = omega arith in
      let once : 2 ^ 127 * 1 ≤ 2 ^ 127 * suc b = mul-le-mul_left (2 ^ 127) some in
      let more : 2 ^ 127 * suc b ≤ a * suc b = mul-le-mul_right (suc b) high in
      ap (λ (n : ℕ). capped (n * suc b)) (told_past a high) ∙ told_past (2 ^ 127 * suc b) (omega (arith, once))
      ∙ sym (told_past (a * suc b) (omega (arith, once, more)))
]

pub told_more : (marks : List Mark) (place product next : ℕ) (mark : Mark) → place < length marks
    → mark ≡ get_or marks place mark → next ≡ capped (product * (mark.most + 1))
    → capped (product * counts_of (drop place marks)) ≡ capped (counts_of marks)
    → capped (next * counts_of (drop (place + 1) marks)) ≡ capped (counts_of marks)
told_more marks place product next mark inside here is so_far =
    let rest : ℕ = counts_of (drop (place + 1) marks) in
    let next_mark : counts_of (drop place marks) ≡ (mark.most + 1) * counts_of (drop (place + 1) marks) =
    ap counts_of (drop_more marks place mark inside)
    ∙ ap (λ (one : Mark). counts_of (one ∷ drop (place + 1) marks)) (sym here) in
    ap (λ (n : ℕ). capped (n * rest)) is
    ∙ told_first (product * (mark.most + 1)) rest
    ∙ ap capped (mul_assoc product (mark.most + 1) rest) ∙ ap (λ (n : ℕ). capped (product * n)) (sym next_mark) ∙ so_far

-- what is few is told as it is
pub many_told : (n : ℕ) → 4000000 < capped n → 4000000 < n
many_told n many = omega (arith, many, min-le_left n (2 ^ 127))

pub told_many : (n : ℕ) → 4000000 < n → 4000000 < capped n
told_many n many = elim (cases_lt n (2 ^ 127)) [
  | inl low ↦ omega (arith, told_less n (omega (arith, low)), many)
  | inr high ↦ omega (arith, told_past n high)
]

-- what is told as less than 2^127 is as it is told
pub told_exact : (n : ℕ) → capped n < 2 ^ 127 → capped n ≡ n
told_exact n low = elim (cases_lt n (2 ^ 127)) [
  | inl less ↦ told_less n (omega (arith, less))
  | inr high ↦ absurd (omega (arith, told_past n high, low))
]

-- Of eight marks at most, and no more words than there are, the product is told as it is.
pub told_of_few : (words : ℕ) (marks : List Mark) → words ≤ 2004 → length marks ≤ 8
    → capped (words * counts_of marks) ≡ words * counts_of marks
told_of_few words marks low few =
    let one : words * counts_of marks ≤ 2004 * counts_of marks = mul-le-mul_right (counts_of marks) low in
    told_less (words * counts_of marks) (omega (arith, one, counts_few marks few))

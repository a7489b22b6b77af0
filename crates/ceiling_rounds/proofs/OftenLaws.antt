-- How often pieces come, from the last one down.
use Rattle.std.proofs.Common.{◌≡◌, ◌≢◌, ℕ, zero, suc, ◌+◌, ◌*◌, ◌<◌, ◌≤◌, List, ◌∷◌, length, take, drop, []}
use Rattle.std.proofs.Common.{set, get_or, refl, ap, sym, ◌∙◌, arith, inl, inr}
use Rattle.std.specs.Prelude.{flat_map, replicate, sum_by}
use Rattle.std.proofs.Math.Nat.{add-mul, mul-add, mul-zero, suc-mul, zero-mul}
use Rattle.std.proofs.lemmas.Bool.{cases_lt}
use Rattle.std.proofs.lemmas.List.{at_drop_more, drop-set-lt, get_or-replicate, get_or-set_other, get_or-set_same}
use Rattle.std.proofs.lemmas.List.{length-replicate, length-set}
use Rattle.std.proofs.lemmas.List.Sums.{sum_by-append, sum_by-cons}
use Rattle.flow_walks.specs.declared.piece.Piece.{Piece}
use Rattle.flow_walks.specs.declared.piece.Piece.TheVariants as piece
use Rattle.flow_walks.specs.Pieces.{repeated, seen_placed, spelled_at, spelled_behind, spelled_by, spelled_of, PlacedHop}
use Rattle.ceiling_rounds.specs.InRounds.{summed}
use Rattle.ceiling_rounds.specs.OftenOf.{by_named, hops_in, owed, HasShared}
use Rattle.ceiling_rounds.proofs.SpelledLaws.{spelled_earlier, spelled_piece}

-- ---- what is owed where one entry is set

module _ (of_piece : ℕ → ℕ) where
  owed_others : (often : List ℕ) (at value count : ℕ) → count ≤ at
      → owed of_piece (set often at value) count ≡ owed of_piece often count
  owed_others often at value zero low = refl
  owed_others often at value (suc count) low =
      let differ : count ≢ at = λ same. absurd (omega (arith, low, same)) in
      ap (λ (n : ℕ). n + get_or (set often at value) count 0 * of_piece count)
      (owed_others often at value count (omega (arith, low)))
      ∙ ap (λ (n : ℕ). owed of_piece often count + n * of_piece count)
      (get_or-set_other often at count value 0 differ)

  owed_set : (often : List ℕ) (at more count : ℕ) → at < count → at < length often
      → owed of_piece (set often at (get_or often at 0 + more)) count ≡ owed of_piece often count + more * of_piece at
  owed_set often at more zero less within = absurd (omega (arith, less))
  owed_set often at more (suc count) less within =
      let value = get_or often at 0 + more in
      elim (cases_lt at count) [
        | inl low ↦ (
            let differ : count ≢ at = λ same. absurd (omega (arith, low, same)) in
            let entry : get_or (set often at value) count 0 * of_piece count ≡ get_or often count 0 * of_piece count =
            ap (λ (n : ℕ). n * of_piece count) (get_or-set_other often at count value 0 differ) in
            omega (arith, owed_set often at more count low within, entry))
        | inr high ↦ (
            let here : at ≡ count = omega (arith, less, high) in
            let entry : get_or (set often at value) count 0 * of_piece count ≡ value * of_piece at =
            ap (λ (n : ℕ). get_or (set often at value) n 0 * of_piece n) (sym here)
            ∙ ap (λ (n : ℕ). n * of_piece at) (get_or-set_same often at value 0 within) in
            let was : get_or often count 0 * of_piece count ≡ get_or often at 0 * of_piece at =
            ap (λ (n : ℕ). get_or often n 0 * of_piece n) (sym here) in
            omega (
              arith,
              owed_others often at value count high,
              entry,
              was,
              add-mul (get_or often at 0) more (of_piece at),
            ))
      ]

  owed_none : (count long : ℕ) → count ≤ long → owed of_piece (replicate long 0) count ≡ 0
  owed_none zero long low = refl
  owed_none (suc count) long low =
      let entry : get_or (replicate long 0) count 0 * of_piece count ≡ 0 =
      ap (λ (n : ℕ). n * of_piece count) (get_or-replicate long count 0 0 low) ∙ zero-mul (of_piece count) in
      omega (arith, entry, owed_none count long (omega (arith, low)))

  -- the last comes once
  pub owed_last : (last : ℕ) → owed of_piece (set (replicate (suc last) 0) last 1) (suc last) ≡ of_piece last
  owed_last last =
      let zeros : List ℕ = replicate (suc last) 0 in
      let long : length zeros ≡ suc last = length-replicate (suc last) 0 in
      let entry : get_or (set zeros last 1) last 0 * of_piece last ≡ 1 * of_piece last =
      ap (λ (n : ℕ). n * of_piece last) (get_or-set_same zeros last 1 0 (omega (arith, long))) in
      omega (
        arith,
        owed_others zeros last 1 last (omega arith),
        owed_none last (suc last) (omega arith),
        entry,
        suc-mul 0 (of_piece last),
      )

-- ---- shares

pub one_shared : (limit : ℕ) (often : List ℕ) (at more value : ℕ) → at < limit → limit < length often
    → value ≡ get_or often at 0 + more
    → HasShared limit often (set often at value) (λ of_piece. more * of_piece at)
one_shared limit often at more value low within is = record {
  each = length-set often at value;
  others = drop-set-lt limit often at value low;
  owed = λ of_piece.
      ap (λ (n : ℕ). owed of_piece (set often at n) limit) is
      ∙ owed_set of_piece often at more limit low (omega (arith, low, within));
}

pub both_shared : (limit : ℕ) (first second third : List ℕ) (one other all : (ℕ → ℕ) → ℕ)
    → HasShared limit first second one → HasShared limit second third other
    → ((of_piece : ℕ → ℕ) → all of_piece ≡ one of_piece + other of_piece) → HasShared limit first third all
both_shared limit first second third one other all now next sum = record {
  each = next.each ∙ now.each;
  others = next.others ∙ now.others;
  owed = λ of_piece. omega (arith, now.owed of_piece, next.owed of_piece, sum of_piece);
}

pub same_shared : (limit : ℕ) (before after : List ℕ) (one other : (ℕ → ℕ) → ℕ)
    → ((of_piece : ℕ → ℕ) → other of_piece ≡ one of_piece) → HasShared limit before after one
    → HasShared limit before after other
same_shared limit before after one other same shared = record {
  each = shared.each;
  others = shared.others;
  owed = λ of_piece. shared.owed of_piece ∙ ap (λ (n : ℕ). owed of_piece before limit + n) (sym (same of_piece));
}

-- ---- what pieces stand for, where what is added up over hops is

sum_repeated : (what : PlacedHop → ℕ) (times : ℕ) (hops : List PlacedHop)
    → sum_by what (repeated times hops) ≡ times * sum_by what hops
sum_repeated what zero hops = sym (zero-mul (sum_by what hops))
sum_repeated what (suc times) hops =
    omega (
      arith,
      sum_by-append what hops (repeated times hops),
      sum_repeated what times hops,
      suc-mul times (sum_by what hops),
    )

sum_flat : (what : PlacedHop → ℕ) (spells : ℕ → List PlacedHop) (numbers : List ℕ)
    → sum_by what (flat_map spells numbers) ≡ sum_by (λ n. sum_by what (spells n)) numbers
sum_flat what spells [] = refl
sum_flat what spells (number ∷ numbers) =
    omega (
      arith,
      sum_by-append what (spells number) (flat_map spells numbers),
      sum_flat what spells numbers,
      sum_by-cons (λ n. sum_by what (spells n)) number numbers,
    )

-- what a piece stands for itself
abbrev pub own : (PlacedHop → ℕ) → Piece → ℕ
own what (piece.Hop one) = what (seen_placed one)
own what (piece.Row pieces) = 0
own what (piece.Rounds rounds) = 0

sum_piece : (what : PlacedHop → ℕ) (before : List (List PlacedHop)) (one : Piece)
    → sum_by what (spelled_by before one) ≡ own what one + by_named (λ n. sum_by what (spelled_at before n)) one
sum_piece what before (piece.Hop one) = omega arith
sum_piece what before (piece.Row pieces) = omega (arith, sum_flat what (spelled_at before) pieces.items)
sum_piece what before (piece.Rounds rounds) =
    omega (arith, sum_repeated what rounds.times (spelled_at before rounds.piece))

pub summed_more : (what : PlacedHop → ℕ) (one : Piece) (pieces : List Piece) (times : ℕ) (often : List ℕ)
    → summed what (one ∷ pieces) (times ∷ often) ≡ times * own what one + summed what pieces often
summed_more what (piece.Hop one) pieces times often = refl
summed_more what (piece.Row names) pieces times often = omega (arith, mul-zero times)
summed_more what (piece.Rounds rounds) pieces times often = omega (arith, mul-zero times)

-- what is owed of pieces that stand for the same
owed_same : (one other : ℕ → ℕ) (often : List ℕ) (count : ℕ) → ((k : ℕ) → k < count → one k ≡ other k)
    → owed one often count ≡ owed other often count
owed_same one other often zero same = refl
owed_same one other often (suc count) same =
    let last : get_or often count 0 * one count ≡ get_or often count 0 * other count =
    ap (λ (n : ℕ). get_or often count 0 * n) (same count (omega arith)) in
    omega (arith, owed_same one other often count (λ k less. same k (omega (arith, less))), last)

-- what a piece stands for in all
abbrev pub worth : (PlacedHop → ℕ) → List Piece → ℕ → ℕ
worth what pieces number = sum_by what (spelled_of pieces number)

-- Goes through the piece with this number.
pub passed_piece : (pieces : List Piece) (n : ℕ) (one : Piece) (before after : List ℕ) (what : PlacedHop → ℕ)
    → n < length pieces → one ≡ get_or pieces n one → length before ≡ length pieces
    → HasShared n before after (λ of_piece. get_or before n 0 * by_named of_piece one)
    → owed (worth what pieces) after n + summed what (drop n pieces) (drop n after)
    ≡ owed (worth what pieces) before (n + 1) + summed what (drop (n + 1) pieces) (drop (n + 1) before)
passed_piece pieces n one before after what within is long shared =
    let times = get_or before n 0 in
    let spells = spelled_behind [] (take n pieces) in
    let near : ℕ → ℕ = λ k. sum_by what (spelled_at spells k) in
    let all = worth what pieces in
    let rest = summed what (drop (n + 1) pieces) (drop (n + 1) before) in
    let same : (k : ℕ) → k < n → all k ≡ near k = λ k less. ap (sum_by what) (spelled_earlier pieces n within k less) in
    let its : all n ≡ own what one + by_named near one =
    ap (sum_by what) (spelled_piece pieces n within one ∙ ap (spelled_by spells) (sym is)) ∙ sum_piece what spells one in
    let shares : owed all after n ≡ owed all before n + times * by_named near one =
    owed_same all near after n same ∙ shared.owed near
    ∙ ap (λ (m : ℕ). m + times * by_named near one) (sym (owed_same all near before n same)) in
    let last : owed all before (n + 1) ≡ owed all before n + times * all n =
    ap (owed all before) (one_more n) in
    let product : times * all n ≡ times * own what one + times * by_named near one =
    ap (λ (m : ℕ). times * m) its ∙ mul-add times (own what one) (by_named near one) in
    let tail : summed what (drop n pieces) (drop n after) ≡ times * own what one + rest =
    ap (summed what (drop n pieces)) shared.others
    ∙ at_drop_more (λ (ps : List Piece). summed what ps (drop n before)) pieces n one within
    ∙ ap (λ (p : Piece). summed what (p ∷ drop (n + 1) pieces) (drop n before)) (sym is)
    ∙ at_drop_more (summed what (one ∷ drop (n + 1) pieces)) before n 0 (omega (arith, within, long))
    ∙ summed_more what one (drop (n + 1) pieces) times (drop (n + 1) before) in
    omega (arith, shares, last, product, tail)
  where
    one_more : (m : ℕ) → m + 1 ≡ suc m
    one_more m = omega arith

-- How many hops are counted there.
pub counted_piece : (pieces : List Piece) (n : ℕ) (one : Piece) (before after : List ℕ) → n < length pieces
    → one ≡ get_or pieces n one → length before ≡ length pieces → drop n after ≡ drop n before
    → summed (λ _. 1) (drop n pieces) (drop n after)
    ≡ summed (λ _. 1) (drop (n + 1) pieces) (drop (n + 1) before) + get_or before n 0 * hops_in one
counted_piece pieces n one before after within is long others =
    let times = get_or before n 0 in
    let tail : summed (λ _. 1) (drop n pieces) (drop n after)
    ≡ times * own (λ _. 1) one + summed (λ _. 1) (drop (n + 1) pieces) (drop (n + 1) before) =
    ap (summed (λ _. 1) (drop n pieces)) others
    ∙ at_drop_more (λ (ps : List Piece). summed (λ _. 1) ps (drop n before)) pieces n one within
    ∙ ap (λ (p : Piece). summed (λ _. 1) (p ∷ drop (n + 1) pieces) (drop n before)) (sym is)
    ∙ at_drop_more (summed (λ _. 1) (one ∷ drop (n + 1) pieces)) before n 0 (omega (arith, within, long))
    ∙ summed_more (λ _. 1) one (drop (n + 1) pieces) times (drop (n + 1) before) in
    omega (arith, tail, ap (λ (m : ℕ). times * m) (counts one))
  where
    counts : (p : Piece) → own (λ _. 1) p ≡ hops_in p
    counts (piece.Hop hop) = refl
    counts (piece.Row names) = refl
    counts (piece.Rounds rounds) = refl

pub all_ones : (hops : List PlacedHop) → sum_by (λ _. 1) hops ≡ length hops
all_ones [] = refl
all_ones (hop ∷ hops) = omega (arith, sum_by-cons (λ _. 1) hop hops, all_ones hops)

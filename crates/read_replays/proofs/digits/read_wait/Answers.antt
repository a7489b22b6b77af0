use Rattle.std.proofs.Common.{◌≡◌, length, drop, ap, sym, ◌∙◌, arith}
use Rattle.std.proofs.lemmas.Bool.{eqb-true}
use Rattle.base_words.specs.Numeral.{digits_of}
use Rattle.base_words.proofs.Numerals.{length-digits_of}
use Rattle.read_replays.proofs.Halves.{at_length, same_number}
use Rattle.read_replays.proofs.digits.read_wait.Goals as goal
use Rattle.read_replays.proofs.digits.read_wait.Goals.{then-is_empty-via-then-is_empty}
use Rattle.read_replays.proofs.digits.read_wait.Goals.{then-is_empty-via-else-is_empty+then-digits-gt7}

pub returns-then-is_empty-clause-none : goal.returns-then-is_empty-clause-none
returns-then-is_empty-clause-none c n (count, some, seven, small, million, written) =
    let digits : c.in-Some.digits.now ≡ digits_of count n = ap (drop 5) (sym c.in-Some.ensures ∙ written) in
    let long : length c.in-Some.digits.now ≡ count = ap length digits ∙ length-digits_of count n in
    elim c.then-is_empty.branch [
      | then-is_empty-via-then-is_empty w ↦
          let empty : length c.in-Some.digits.now ≡ 0 =
          eqb-true (length c.in-Some.digits.now) 0 (sym c.is_empty.ensures ∙ w.if-is_empty.true) in
          omega (arith, long, empty)
      | then-is_empty-via-else-is_empty+then-digits-gt7 w ↦ omega (arith, long)
    ]

pub returns-in_default-read_digits-clause-none : goal.returns-in_default-read_digits-clause-none
returns-in_default-read_digits-clause-none c n (count, some, seven, small, million, written) =
    let digits : c.in-Some.digits.now ≡ digits_of count n = ap (drop 5) (sym c.in-Some.ensures ∙ written) in
    let same : n ≡ c.in-Some-read_digits.wait =
    same_number c.in-Some.digits.now count n c.in-Some-read_digits.wait digits small
    c.in-Some-read_digits.ensures.found c.in-Some-read_digits.ensures.small in
    omega (arith, same, c.if-wait-le-LONGEST.false)

pub returns-in_default-read_digits-2-clause-none : goal.returns-in_default-read_digits-2-clause-none
returns-in_default-read_digits-2-clause-none c n (count, some, seven, small, million, written) =
    let digits : c.in-Some.digits.now ≡ digits_of count n = ap (drop 5) (sym c.in-Some.ensures ∙ written) in
    c.in_default-read_digits.ensures.none n (at_length c.in-Some.digits.now count n digits)

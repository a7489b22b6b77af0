use Rattle.std.proofs.Common.{◌≡◌, ◌+◌, ◌-◌, ◌*◌, ◌^◌, ◌/◌, ◌%◌, length, take, drop, ap, ◌∙◌, arith}
use Rattle.std.proofs.lemmas.List.{take_all, length-drop}
use Rattle.base_words.specs.Numeral.{digits_of}
use Rattle.read_replays.proofs.Halves.{halves, whole, at_length}
use Rattle.read_replays.proofs.accumulator.read_twenty.Goals as goal

pub returns-in_default-clause-none : goal.returns-in_default-clause-none
returns-in_default-clause-none c n written =
    let text = c.args.text.now in
    c.in_default.ensures.none (n / 10 ^ 10) (at_length (take 10 text) 10 (n / 10 ^ 10) (halves text n written).0)

pub returns-in_default-read_digits-clause-none : goal.returns-in_default-read_digits-clause-none
returns-in_default-read_digits-clause-none c n written =
    let text = c.args.text.now in
    let all : take (length text - 10) (drop 10 text) ≡ drop 10 text =
    take_all (length text - 10) (drop 10 text) (omega (arith, length-drop 10 text)) in
    c.in_default-read_digits.ensures.none (n % 10 ^ 10)
    (at_length (take (length text - 10) (drop 10 text)) 10 (n % 10 ^ 10) (all ∙ (halves text n written).1))

pub returns-clause-found : goal.returns-clause-found
returns-clause-found c =
    let text = c.args.text.now in
    let all : take (length text - 10) (drop 10 text) ≡ drop 10 text =
    take_all (length text - 10) (drop 10 text) (omega (arith, length-drop 10 text)) in
    let upper = c.in-Some.upper in
    let lower = c.in-Some-read_digits.lower in
    let sum : upper * 10 ^ 10 + lower ≡ c.from.result * 10 ^ 10 + c.from-2.result =
    omega (arith, c.from.ensures, c.from-2.ensures) in
    whole text (take (length text - 10) (drop 10 text)) upper lower c.requires all c.in-Some.ensures.found
    c.in-Some-read_digits.ensures.found c.in-Some-read_digits.ensures.small
    ∙ ap (digits_of 20) sum

use Rattle.std.proofs.Common.{◌≡◌, drop, ap, sym, ◌∙◌}
use Rattle.base_words.specs.Numeral.{digits_of}
use Rattle.read_replays.proofs.Halves.{at_length}
use Rattle.read_replays.proofs.digits.read_angle.Goals as goal

pub returns-in_default-read_digits-2-clause-none : goal.returns-in_default-read_digits-2-clause-none
returns-in_default-read_digits-2-clause-none c n is_line =
    let digits : c.in-Some.digits.now ≡ digits_of 2 n = ap (drop 6) (sym c.in-Some.ensures ∙ is_line.1) in
    c.in_default-read_digits.ensures.none n (at_length c.in-Some.digits.now 2 n digits)

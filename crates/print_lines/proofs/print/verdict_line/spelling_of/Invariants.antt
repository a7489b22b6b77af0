use Rattle.std.proofs.Common.{◌≡◌, ◌-◌, [], ◌∷◌, ◌++◌, length, take, drop}
use Rattle.base_words.specs.Numeral.{digits_of}
use Rattle.print_lines.proofs.print.verdict_line.spelling_of.Given as goal

-- the last digits stand in their places
abbrev pub invariant-loop-place : goal.invariant-loop-place
invariant-loop-place l = record {
  places : length l.text ≡ 11;
  sign : take 1 l.text ≡ l.sign ∷ [];
  digits : digits_of (10 - l.place) l.rest ++ drop (11 - l.place) l.text ≡ digits_of 10 l.fn.word.digits;
}

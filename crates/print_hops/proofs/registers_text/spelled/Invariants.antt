use Rattle.std.proofs.Common.{◌≡◌, ◌-◌, [], ◌∷◌, ◌++◌, length, take, drop}
use Rattle.std.specs.Prelude.{unsigned_abs}
use Rattle.base_words.specs.Numeral.{digits_of}
use Rattle.print_hops.proofs.registers_text.spelled.Given as goal

-- the last digits stand in their places
abbrev pub invariant-loop-place : goal.invariant-loop-place
invariant-loop-place l = record {
  places : length l.text ≡ 21;
  sign : take 1 l.text ≡ l.sign ∷ [];
  digits : digits_of (20 - l.place) l.rest ++ drop (21 - l.place) l.text ≡ digits_of 20 (unsigned_abs l.fn.number);
}

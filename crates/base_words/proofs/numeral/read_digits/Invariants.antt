use Rattle.std.proofs.Common.{◌≡◌, ◌<◌, ◌^◌, take}
use Rattle.base_words.specs.Numeral.{digits_of}
use Rattle.base_words.proofs.numeral.read_digits.Given as goal

-- the digits so far write the number so far
abbrev pub invariant-loop-byte : goal.invariant-loop-byte
invariant-loop-byte l = record {
  written : take l.byte-index l.text ≡ digits_of l.byte-index l.number;
  small : l.number < 10 ^ l.byte-index;
}

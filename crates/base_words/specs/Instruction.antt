-- The instruction of a word (IBM 650 Manual of Operation).
use Rattle.std.specs.Prelude.{◌≡◌, ℕ, ◌+◌, ◌*◌, ◌/◌, ◌%◌, ◌^◌, ◌<◌}
use Rattle.std.proofs.Common.{arith}
use Rattle.base_words.specs.declared.instruction.Instruction.{Instruction}
use Rattle.base_words.specs.declared.word.Word.{Word}

-- Ten digits taken apart from left to right: two of operation, four of D and four of I. The type of
-- an instruction says how many digits each part has.
abbrev pub IsInstructionOf : ℕ → Instruction → Type 0
IsInstructionOf digits instruction =
    digits ≡ instruction.op * 10 ^ 8 + instruction.d * 10 ^ 4 + instruction.i

pub two_digits : (n : ℕ) → n % 100 < 100
two_digits n = omega arith

pub four_digits : (n : ℕ) → n % 10 ^ 4 < 10 ^ 4
four_digits n = omega arith

-- the instruction of the last two digits of op, the last four of d, and the last four of i
abbrev pub instruction : ℕ → ℕ → ℕ → Instruction
instruction op d i = record {
  op = op % 100;
  d = d % 10 ^ 4;
  i = i % 10 ^ 4;
  two = two_digits op;
  four = four_digits d;
  next_four = four_digits i;
}

-- the instruction of a word, whose sign plays no part
abbrev pub instruction_of : Word → Instruction
instruction_of word = instruction (word.digits / 10 ^ 8) (word.digits / 10 ^ 4) word.digits

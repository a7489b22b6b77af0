-- Definitions evaluated, with answers that were worked out apart from them.
use Rattle.std.proofs.Common.{◌≡◌, true, [], ◌∷◌, refl}
use Rattle.std.specs.Prelude.{codes}
use Rattle.base_words.specs.Instruction.{instruction_of}
use Rattle.base_words.specs.Op.{number_of, op_of, ops}
use Rattle.base_words.specs.Word.{word, spelling}
use Rattle.base_words.specs.declared.op.Op.TheVariants.{Read}
use Rattle.std.specs.Prelude.{Some, None, map}

-- the instruction of -7019990100 reads a card into the band of 1999 and goes on at 0100
minus_seventy : ((instruction_of (word true 7019990100)).op ≡ 70) × ((instruction_of (word true 7019990100)).d ≡ 1999)
    × ((instruction_of (word true 7019990100)).i ≡ 100)
minus_seventy = (refl, refl, refl)

seventy_reads : (op_of 70 ≡ Some Read) × (op_of 36 ≡ None) × (op_of 84 ≡ None)
seventy_reads = (refl, refl, refl)

-- the 42 operations, by their numbers
in_order : map number_of ops
    ≡ 0 ∷ 1 ∷ 10 ∷ 11 ∷ 14 ∷ 15 ∷ 16 ∷ 17 ∷ 18 ∷ 19 ∷ 20 ∷ 21 ∷ 22 ∷ 23 ∷ 24 ∷ 30 ∷ 31 ∷ 35 ∷ 44 ∷ 45 ∷ 46 ∷ 47 ∷ 60
    ∷ 61 ∷ 64 ∷ 65 ∷ 66 ∷ 67 ∷ 68 ∷ 69
    ∷ 70 ∷ 71 ∷ 90 ∷ 91 ∷ 92 ∷ 93 ∷ 94 ∷ 95 ∷ 96 ∷ 97 ∷ 98 ∷ 99 ∷ []
in_order = refl

-- a word's text
text_of_a_word : spelling (word true 7019990100) ≡ codes "-7019990100"
text_of_a_word = refl

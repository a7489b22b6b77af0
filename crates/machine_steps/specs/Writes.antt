-- Which drum words an instruction writes (IBM 650 Manual of Operation).
use Rattle.std.specs.Prelude.{ℕ, ◌+◌, nat_lt, if◌then◌else◌, List, [], ◌∷◌, Option, Some, None}
use Rattle.std.specs.List.{range_with_len}
use Rattle.base_words.specs.declared.instruction.Instruction.{Instruction}
use Rattle.base_words.specs.declared.op.Op.{Op}
use Rattle.base_words.specs.declared.op.Op.TheVariants.{Store, Read}
use Rattle.base_words.specs.Op.{op_of}
use Rattle.machine_steps.specs.Effect.{band}

-- 20 to 24 write D; 70 writes words 01 to 10 of D's band; nothing else writes
abbrev pub written_by : Op → ℕ → List ℕ
written_by (Store s) d = d ∷ []
written_by Read d = range_with_len (band d + 1) 10
written_by _ d = []

abbrev pub writes_with : Option Op → ℕ → List ℕ
writes_with None d = []
writes_with (Some op) d = if nat_lt d 2000 then written_by op d else []

-- the locations that an instruction writes
abbrev pub writes : Instruction → List ℕ
writes ins = writes_with (op_of ins.op) ins.d

-- The words that an instruction writes follow one another.
use Rattle.std.proofs.Common.{◌≡◌, ℕ, ◌+◌, Bool, true, false, List, [], ◌∷◌, refl}
use Rattle.std.specs.Prelude.{Option, Some, None, cond, nat_lt}
use Rattle.std.specs.List.{range_with_len}
use Rattle.base_words.specs.declared.instruction.Instruction.{Instruction}
use Rattle.base_words.specs.declared.op.Op.{Op}
use Rattle.base_words.specs.declared.op.Op.TheVariants.{NoOperation, Stop, Add, ResetAdd, Divide, DivideReset, Multiply}
use Rattle.base_words.specs.declared.op.Op.TheVariants.{Store, Shift, Branch, LoadDistributor, Read, Punch, BranchOnDigit}
use Rattle.base_words.specs.Op.{op_of}
use Rattle.machine_steps.specs.Effect.{band}
use Rattle.machine_steps.specs.Writes.{writes, writes_with}

abbrev IsRange : List ℕ → Type 0
IsRange xs = (a : ℕ) × (n : ℕ) × (xs ≡ range_with_len a n)

nothing : (b : Bool) → IsRange (cond b [] [])
nothing true = (0, 0, refl)
nothing false = (0, 0, refl)

writes_range_with : (op : Option Op) (d : ℕ) → IsRange (writes_with op d)
writes_range_with None d = (0, 0, refl)
writes_range_with (Some (Store s)) d = go (nat_lt d 2000)
  where
    go : (b : Bool) → IsRange (cond b (d ∷ []) [])
    go true = (d, 1, refl)
    go false = (0, 0, refl)
writes_range_with (Some Read) d = go (nat_lt d 2000)
  where
    go : (b : Bool) → IsRange (cond b (range_with_len (band d + 1) 10) [])
    go true = (band d + 1, 10, refl)
    go false = (0, 0, refl)
writes_range_with (Some NoOperation) d = nothing (nat_lt d 2000)
writes_range_with (Some Stop) d = nothing (nat_lt d 2000)
writes_range_with (Some (Add a)) d = nothing (nat_lt d 2000)
writes_range_with (Some (ResetAdd a)) d = nothing (nat_lt d 2000)
writes_range_with (Some Divide) d = nothing (nat_lt d 2000)
writes_range_with (Some DivideReset) d = nothing (nat_lt d 2000)
writes_range_with (Some Multiply) d = nothing (nat_lt d 2000)
writes_range_with (Some (Shift s)) d = nothing (nat_lt d 2000)
writes_range_with (Some (Branch b)) d = nothing (nat_lt d 2000)
writes_range_with (Some LoadDistributor) d = nothing (nat_lt d 2000)
writes_range_with (Some Punch) d = nothing (nat_lt d 2000)
writes_range_with (Some (BranchOnDigit p)) d = nothing (nat_lt d 2000)

pub writes_range : (ins : Instruction) → (a : ℕ) × (n : ℕ) × (writes ins ≡ range_with_len a n)
writes_range ins = writes_range_with (op_of ins.op) ins.d

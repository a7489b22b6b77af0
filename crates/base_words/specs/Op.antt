-- The numbers of the operations, and what each wants of its data address (IBM 650 Manual of
-- Operation).
use Rattle.std.specs.Prelude.{ℕ, ◌+◌, ◌==◌, Bool, true, nat_lt, List, [], ◌∷◌, Option, find}
use Rattle.base_words.specs.declared.op.Op.{Op}
use Rattle.base_words.specs.declared.op.Op.TheVariants.{NoOperation, Stop, Add, ResetAdd, Divide}
use Rattle.base_words.specs.declared.op.Op.TheVariants.{DivideReset, Multiply, Store, Shift, Branch}
use Rattle.base_words.specs.declared.op.Op.TheVariants.{LoadDistributor, Read, Punch, BranchOnDigit}
use Rattle.base_words.specs.declared.op.Operand.{Operand}
use Rattle.base_words.specs.declared.op.Operand.TheVariants.{Any, Drum, Unused}
use Rattle.base_words.specs.declared.op.amount.Amount.TheVariants.{Upper, MinusUpper, Lower}
use Rattle.base_words.specs.declared.op.amount.Amount.TheVariants.{MinusLower, AbsoluteLower}
use Rattle.base_words.specs.declared.op.amount.Amount.TheVariants.{MinusAbsoluteLower}
use Rattle.base_words.specs.declared.op.branch.Branch.TheVariants.{UpperNonZero, NonZero, Minus}
use Rattle.base_words.specs.declared.op.branch.Branch.TheVariants.{Overflow}
use Rattle.base_words.specs.declared.op.position.Position.TheVariants.{First, Second, Third, Fourth}
use Rattle.base_words.specs.declared.op.position.Position.TheVariants.{Fifth, Sixth, Seventh, Eighth}
use Rattle.base_words.specs.declared.op.position.Position.TheVariants.{Ninth, Tenth}
use Rattle.base_words.specs.declared.op.shift.Shift.TheVariants.{Right, Round, Left}
use Rattle.base_words.specs.declared.op.store.Store.TheVariants as stored
use Rattle.base_words.specs.declared.op.store.Store.TheVariants.{DataAddress, InstructionAddress}
use Rattle.base_words.specs.declared.op.store.Store.TheVariants.{Distributor}
use Rattle.base_words.specs.Amount as amount
use Rattle.base_words.specs.Store as store
use Rattle.base_words.specs.Shift as shift
use Rattle.base_words.specs.Branch as branch
use Rattle.base_words.specs.Location.{is_location}
use Rattle.base_words.specs.Position as position

-- the two digits of an operation
abbrev pub number_of : Op → ℕ
number_of NoOperation = 0
number_of Stop = 1
number_of (Add a) = amount.number_of a
number_of (ResetAdd a) = amount.number_of a + 50
number_of Divide = 14
number_of DivideReset = 64
number_of Multiply = 19
number_of (Store s) = store.number_of s
number_of (Shift s) = shift.number_of s
number_of (Branch b) = branch.number_of b
number_of LoadDistributor = 69
number_of Read = 70
number_of Punch = 71
number_of (BranchOnDigit p) = position.number_of p

-- what an operation wants of its data address
abbrev pub operand_of : Op → Operand
operand_of (Add a) = Any
operand_of (ResetAdd a) = Any
operand_of Divide = Any
operand_of DivideReset = Any
operand_of Multiply = Any
operand_of LoadDistributor = Any
operand_of (Store s) = Drum
operand_of Read = Drum
operand_of Punch = Drum
operand_of NoOperation = Unused
operand_of Stop = Unused
operand_of (Shift s) = Unused
operand_of (Branch b) = Unused
operand_of (BranchOnDigit p) = Unused

-- D is what is wanted
abbrev pub is_operand : Operand → ℕ → Bool
is_operand Any d = is_location d
is_operand Drum d = nat_lt d 2000
is_operand Unused d = true

-- the operations of the profile, in ascending order of their numbers
abbrev pub ops : List Op
ops =
    NoOperation ∷ Stop
    ∷ Add Upper ∷ Add MinusUpper ∷ Divide ∷ Add Lower ∷ Add MinusLower ∷ Add AbsoluteLower
    ∷ Add MinusAbsoluteLower ∷ Multiply
    ∷ Store stored.Lower ∷ Store stored.Upper ∷ Store DataAddress ∷ Store InstructionAddress
    ∷ Store Distributor
    ∷ Shift Right ∷ Shift Round ∷ Shift Left
    ∷ Branch UpperNonZero ∷ Branch NonZero ∷ Branch Minus ∷ Branch Overflow
    ∷ ResetAdd Upper ∷ ResetAdd MinusUpper ∷ DivideReset ∷ ResetAdd Lower ∷ ResetAdd MinusLower
    ∷ ResetAdd AbsoluteLower ∷ ResetAdd MinusAbsoluteLower
    ∷ LoadDistributor ∷ Read ∷ Punch
    ∷ BranchOnDigit Tenth ∷ BranchOnDigit First ∷ BranchOnDigit Second ∷ BranchOnDigit Third
    ∷ BranchOnDigit Fourth
    ∷ BranchOnDigit Fifth ∷ BranchOnDigit Sixth ∷ BranchOnDigit Seventh ∷ BranchOnDigit Eighth
    ∷ BranchOnDigit Ninth ∷ []

-- the operation of a number, if the profile has one
abbrev pub op_of : ℕ → Option Op
op_of n = find (λ op. number_of op == n) ops

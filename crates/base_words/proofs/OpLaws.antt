-- Laws of the operations: each is found by its number, and no other number has one.
use Rattle.std.proofs.Common.{◌≡◌, ◌≢◌, ℕ, ◌<◌, lit<, List, [], ◌∷◌, Option, Some, None, refl, ap, sym, ◌∙◌}
use Rattle.std.specs.Prelude.{◌==◌, slice_get, find, IfSome, IfNone}
use borrow.Author.Tests.{ne_eqb}
use Rattle.base_words.specs.declared.op.Op.{Op}
use Rattle.base_words.specs.declared.op.Op.TheVariants.{NoOperation, Stop, Add, ResetAdd, Divide, DivideReset, Multiply}
use Rattle.base_words.specs.declared.op.Op.TheVariants.{Store, Shift, Branch, LoadDistributor, Read, Punch}
use Rattle.base_words.specs.declared.op.Op.TheVariants.{BranchOnDigit}
use Rattle.base_words.specs.declared.op.amount.Amount.TheVariants.{Upper, MinusUpper, Lower, MinusLower, AbsoluteLower}
use Rattle.base_words.specs.declared.op.amount.Amount.TheVariants.{MinusAbsoluteLower}
use Rattle.base_words.specs.declared.op.branch.Branch.TheVariants.{UpperNonZero, NonZero, Minus, Overflow}
use Rattle.base_words.specs.declared.op.position.Position.TheVariants.{First, Second, Third, Fourth, Fifth, Sixth}
use Rattle.base_words.specs.declared.op.position.Position.TheVariants.{Seventh, Eighth, Ninth, Tenth}
use Rattle.base_words.specs.declared.op.shift.Shift.TheVariants.{Right, Round, Left}
use Rattle.base_words.specs.declared.op.store.Store.TheVariants as stored
use Rattle.base_words.specs.declared.op.store.Store.TheVariants.{DataAddress, InstructionAddress, Distributor}
use Rattle.base_words.specs.Op.{number_of, op_of, ops}

-- it has two digits
pub number_below : (op : Op) → number_of op < 100
number_below NoOperation = lit< tt
number_below Stop = lit< tt
number_below (Add Upper) = lit< tt
number_below (Add MinusUpper) = lit< tt
number_below (Add Lower) = lit< tt
number_below (Add MinusLower) = lit< tt
number_below (Add AbsoluteLower) = lit< tt
number_below (Add MinusAbsoluteLower) = lit< tt
number_below (ResetAdd Upper) = lit< tt
number_below (ResetAdd MinusUpper) = lit< tt
number_below (ResetAdd Lower) = lit< tt
number_below (ResetAdd MinusLower) = lit< tt
number_below (ResetAdd AbsoluteLower) = lit< tt
number_below (ResetAdd MinusAbsoluteLower) = lit< tt
number_below Divide = lit< tt
number_below DivideReset = lit< tt
number_below Multiply = lit< tt
number_below (Store stored.Lower) = lit< tt
number_below (Store stored.Upper) = lit< tt
number_below (Store DataAddress) = lit< tt
number_below (Store InstructionAddress) = lit< tt
number_below (Store Distributor) = lit< tt
number_below (Shift Right) = lit< tt
number_below (Shift Round) = lit< tt
number_below (Shift Left) = lit< tt
number_below (Branch UpperNonZero) = lit< tt
number_below (Branch NonZero) = lit< tt
number_below (Branch Minus) = lit< tt
number_below (Branch Overflow) = lit< tt
number_below LoadDistributor = lit< tt
number_below Read = lit< tt
number_below Punch = lit< tt
number_below (BranchOnDigit First) = lit< tt
number_below (BranchOnDigit Second) = lit< tt
number_below (BranchOnDigit Third) = lit< tt
number_below (BranchOnDigit Fourth) = lit< tt
number_below (BranchOnDigit Fifth) = lit< tt
number_below (BranchOnDigit Sixth) = lit< tt
number_below (BranchOnDigit Seventh) = lit< tt
number_below (BranchOnDigit Eighth) = lit< tt
number_below (BranchOnDigit Ninth) = lit< tt
number_below (BranchOnDigit Tenth) = lit< tt

pub op_of_number : (op : Op) → op_of (number_of op) ≡ Some op
op_of_number NoOperation = refl
op_of_number Stop = refl
op_of_number (Add Upper) = refl
op_of_number (Add MinusUpper) = refl
op_of_number (Add Lower) = refl
op_of_number (Add MinusLower) = refl
op_of_number (Add AbsoluteLower) = refl
op_of_number (Add MinusAbsoluteLower) = refl
op_of_number (ResetAdd Upper) = refl
op_of_number (ResetAdd MinusUpper) = refl
op_of_number (ResetAdd Lower) = refl
op_of_number (ResetAdd MinusLower) = refl
op_of_number (ResetAdd AbsoluteLower) = refl
op_of_number (ResetAdd MinusAbsoluteLower) = refl
op_of_number Divide = refl
op_of_number DivideReset = refl
op_of_number Multiply = refl
op_of_number (Store stored.Lower) = refl
op_of_number (Store stored.Upper) = refl
op_of_number (Store DataAddress) = refl
op_of_number (Store InstructionAddress) = refl
op_of_number (Store Distributor) = refl
op_of_number (Shift Right) = refl
op_of_number (Shift Round) = refl
op_of_number (Shift Left) = refl
op_of_number (Branch UpperNonZero) = refl
op_of_number (Branch NonZero) = refl
op_of_number (Branch Minus) = refl
op_of_number (Branch Overflow) = refl
op_of_number LoadDistributor = refl
op_of_number Read = refl
op_of_number Punch = refl
op_of_number (BranchOnDigit First) = refl
op_of_number (BranchOnDigit Second) = refl
op_of_number (BranchOnDigit Third) = refl
op_of_number (BranchOnDigit Fourth) = refl
op_of_number (BranchOnDigit Fifth) = refl
op_of_number (BranchOnDigit Sixth) = refl
op_of_number (BranchOnDigit Seventh) = refl
op_of_number (BranchOnDigit Eighth) = refl
op_of_number (BranchOnDigit Ninth) = refl
op_of_number (BranchOnDigit Tenth) = refl

not_among : (n : ℕ) (listed : List Op) → ((op : Op) → number_of op ≢ n) → find (λ op. number_of op == n) listed ≡ None
not_among n [] other = refl
not_among n (op ∷ listed) other = rw (ne_eqb (number_of op) n (other op)) (not_among n listed other)

-- what is found by a number is what the list has
pub found_in_list : (found : Option Op) (n : ℕ) → IfSome found (λ op. number_of op ≡ n)
    → IfNone found ((op : Op) → number_of op ≢ n) → found ≡ op_of n
found_in_list None n is_found is_none = sym (not_among n ops is_none)
found_in_list (Some op) n is_found is_none = sym (op_of_number op) ∙ ap op_of is_found

-- no two operations have one number
pub same_op : (a b : Op) → number_of a ≡ number_of b → a ≡ b
same_op a b same = some_is (sym (op_of_number a) ∙ ap op_of same ∙ op_of_number b)
  where
    some_is : Some a ≡ Some b → a ≡ b
    some_is e = cc

-- each operation has a place in the list of all
pub place_of : (op : Op) → (k : ℕ) × (slice_get ops k ≡ Some op)
place_of NoOperation = (0, refl)
place_of Stop = (1, refl)
place_of (Add Upper) = (2, refl)
place_of (Add MinusUpper) = (3, refl)
place_of Divide = (4, refl)
place_of (Add Lower) = (5, refl)
place_of (Add MinusLower) = (6, refl)
place_of (Add AbsoluteLower) = (7, refl)
place_of (Add MinusAbsoluteLower) = (8, refl)
place_of Multiply = (9, refl)
place_of (Store stored.Lower) = (10, refl)
place_of (Store stored.Upper) = (11, refl)
place_of (Store DataAddress) = (12, refl)
place_of (Store InstructionAddress) = (13, refl)
place_of (Store Distributor) = (14, refl)
place_of (Shift Right) = (15, refl)
place_of (Shift Round) = (16, refl)
place_of (Shift Left) = (17, refl)
place_of (Branch UpperNonZero) = (18, refl)
place_of (Branch NonZero) = (19, refl)
place_of (Branch Minus) = (20, refl)
place_of (Branch Overflow) = (21, refl)
place_of (ResetAdd Upper) = (22, refl)
place_of (ResetAdd MinusUpper) = (23, refl)
place_of DivideReset = (24, refl)
place_of (ResetAdd Lower) = (25, refl)
place_of (ResetAdd MinusLower) = (26, refl)
place_of (ResetAdd AbsoluteLower) = (27, refl)
place_of (ResetAdd MinusAbsoluteLower) = (28, refl)
place_of LoadDistributor = (29, refl)
place_of Read = (30, refl)
place_of Punch = (31, refl)
place_of (BranchOnDigit Tenth) = (32, refl)
place_of (BranchOnDigit First) = (33, refl)
place_of (BranchOnDigit Second) = (34, refl)
place_of (BranchOnDigit Third) = (35, refl)
place_of (BranchOnDigit Fourth) = (36, refl)
place_of (BranchOnDigit Fifth) = (37, refl)
place_of (BranchOnDigit Sixth) = (38, refl)
place_of (BranchOnDigit Seventh) = (39, refl)
place_of (BranchOnDigit Eighth) = (40, refl)
place_of (BranchOnDigit Ninth) = (41, refl)

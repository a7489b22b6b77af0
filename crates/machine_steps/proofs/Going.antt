-- What holds of the contents that an outcome leaves holds of those that its step leaves.
use Rattle.std.specs.Prelude.{◌≡◌, ℕ, ◌-◌, ◌^◌, ◌==◌, Bool, true, false, not, if◌then◌else◌, nat_le, Option, Some, None}
use Rattle.std.specs.Prelude.{ℤ, unsigned_abs}
use Rattle.std.proofs.Common.{refl}
use Rattle.base_words.specs.declared.op.Op.{Op}
use Rattle.base_words.specs.Location.{is_location}
use Rattle.base_words.specs.Op.{op_of, operand_of, is_operand}
use Rattle.base_notes.specs.declared.entry.Entry.{Entry}
use Rattle.machine_steps.specs.declared.why.Why.TheVariants as why
use Rattle.machine_steps.specs.Contents.{Contents}
use Rattle.machine_steps.specs.Effect.{Outcome, goes, stops, effect, becomes, overflows, keeps, branches_on}
use Rattle.machine_steps.specs.Step.{State, on, stopped, contents_after, step, step_with, step_of, instruction_in}
use Rattle.machine_steps.specs.Step.{lacks_card, stepped_by, clock_of}
use Rattle.machine_steps.specs.Timing.{ready, ended, units_of}

-- what an outcome leaves
abbrev pub left_by : Outcome → Contents
left_by (goes after next) = after
left_by (stops held because) = held

pub left_if : (Right : Contents → Type 0) (b : Bool) (x y : Outcome) → Right (left_by x) → Right (left_by y)
    → Right (left_by (if b then x else y))
left_if Right true x y p q = p
left_if Right false x y p q = q

-- what is kept of a number, where it has more than twenty digits and where it hasn't
pub keeps_left : (Right : Contents → Type 0) (c : Contents) (z : ℤ) (next : ℕ)
    → Right (overflows c z) → (nat_le (10 ^ 20) (unsigned_abs z) ≡ false → Right (becomes c z))
    → Right (left_by (keeps c z next))
keeps_left Right c z next over within = go (nat_le (10 ^ 20) (unsigned_abs z)) c.overflow_stops within
  where
    go : (large stopping : Bool) → (large ≡ false → Right (becomes c z))
        → Right (left_by (if large then (if stopping then stops (overflows c z) why.Overflow
        else goes (overflows c z) next) else goes (becomes c z) next))
    go true true p = over
    go true false p = over
    go false stopping p = p refl

-- a division, which stops or doesn't
pub division_left : (Right : Contents → Type 0) (large : Bool) (held after : Contents) (next : ℕ) → Right held
    → (large ≡ false → Right after)
    → Right (left_by (if large then stops held why.Quotient else goes after next))
division_left Right true held after next q p = q
division_left Right false held after next q p = p refl

-- a branch on a digit leaves all as it was
pub digit_left : (Right : Contents → Type 0) (c : Contents) (digit d i : ℕ) → Right c
    → Right (left_by (branches_on c digit d i))
digit_left Right c digit d i p =
    left_if Right (digit == 8) (goes c d) _ p (left_if Right (digit == 9) (goes c i) (stops c why.Digit) p p)

of_outcome : (Right : Contents → Type 0) (s : State) (clock : ℕ) (outcome : Outcome) → Right (left_by outcome)
    → Right (contents_after (stepped_by s clock outcome))
of_outcome Right s clock (stops held because) p = p
of_outcome Right s clock (goes after next) p = go (is_location next)
  where
    go : (b : Bool) → Right (contents_after
        (if b then on (record { contents = after; sought = next; time = clock - s.first_angle; first_angle = s.first_angle })
        else stopped after why.Next (clock - s.first_angle)))
    go true = p
    go false = p

of_op : (Right : Contents → Type 0) (times : Op → Entry) (s : State) (wait : ℕ) (op : Op) → Right s.contents
    → (is_operand (operand_of op) (instruction_in s).d ≡ true
    → Right (left_by (effect s.contents op (instruction_in s).d (instruction_in s).i)))
    → Right (contents_after (step_of times s wait op))
of_op Right times s wait op before p = go (is_operand (operand_of op) (instruction_in s).d) (lacks_card op s.contents) p
  where
    clock : ℕ
    clock =
        ended (times op) op (instruction_in s).d s.sought (units_of op (instruction_in s).d s.contents) wait
        (clock_of s)

    x : ℕ
    x = ready (times op) s.sought (clock_of s)

    outcome : Outcome
    outcome = effect s.contents op (instruction_in s).d (instruction_in s).i

    go : (wanted lacks : Bool) → (wanted ≡ true → Right (left_by outcome))
        → Right (contents_after (if not wanted then stopped s.contents why.Operand (x - s.first_angle)
        else (if lacks then stopped s.contents why.Card (x - s.first_angle) else stepped_by s clock outcome)))
    go false lacks q = before
    go true true q = before
    go true false q = of_outcome Right s clock outcome (q refl)

-- What holds before a step, and of what the effect of the fetched operation leaves where D is what it wants, holds
-- of what the step leaves.
pub step_leaves : (Right : Contents → Type 0) (times : Op → Entry) (s : State) (wait : ℕ) → Right s.contents
    → ((op : Op) → op_of (instruction_in s).op ≡ Some op → is_operand (operand_of op) (instruction_in s).d ≡ true
    → Right (left_by (effect s.contents op (instruction_in s).d (instruction_in s).i)))
    → Right (contents_after (step times s wait))
step_leaves Right times s wait before p = go (op_of (instruction_in s).op) p
  where
    go : (found : Option Op) → ((op : Op) → found ≡ Some op → is_operand (operand_of op) (instruction_in s).d ≡ true
        → Right (left_by (effect s.contents op (instruction_in s).d (instruction_in s).i)))
        → Right (contents_after (step_with times s wait found))
    go None q = before
    go (Some op) q = of_op Right times s wait op before (q op refl)

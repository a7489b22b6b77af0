-- The ways in which a step of an instruction may end, by the notes.
use Rattle.std.specs.Prelude.{ℕ, Bool, true, false, not, if◌then◌else◌, ◌||◌, List, [], ◌∷◌, ◌++◌}
use Rattle.std.specs.Prelude.{map, filter, Option, Some, None}
use Rattle.std.specs.List.{list_any}
use Rattle.base_words.specs.declared.instruction.Instruction.{Instruction}
use Rattle.base_words.specs.declared.op.Op.{Op}
use Rattle.base_words.specs.declared.op.Op.TheVariants.{NoOperation, Stop, Add, ResetAdd, Divide}
use Rattle.base_words.specs.declared.op.Op.TheVariants.{DivideReset, Multiply, Store, Shift, Branch}
use Rattle.base_words.specs.declared.op.Op.TheVariants.{LoadDistributor, Read, Punch, BranchOnDigit}
use Rattle.base_words.specs.Location.{is_location}
use Rattle.base_words.specs.Op.{op_of, operand_of, is_operand}
use Rattle.base_notes.specs.declared.notes.programmed.Programmed as switches
use Rattle.base_notes.specs.declared.notes.programmed.Programmed.TheVariants as switch
use Rattle.base_notes.specs.Allowed.{Notes}

-- a stop at x, a step to a location, a stop at e
pub data Way : Type 0 where
  early : Way
  to : ℕ → Way
  late : Way

-- Early, then the next locations in order, then Late. A next location that is none is a stop at e,
-- and Late comes once at most.
abbrev pub in_order : Bool → List ℕ → Bool → List Way
in_order stops_early nexts stops_late =
    (if stops_early then early ∷ [] else []) ++ map to (filter is_location nexts)
    ++ (if stops_late || list_any (λ next. not (is_location next)) nexts then late ∷ [] else [])

-- 01 by the declared switch
abbrev pub ways_of_stop : switches.Programmed → ℕ → List Way
ways_of_stop switch.Stop i = in_order false [] true
ways_of_stop switch.Run i = in_order false (i ∷ []) false
ways_of_stop switch.Any i = in_order false (i ∷ []) true

-- The ways of an operation whose D is what it wants. 10 to 19 and 64 may stop for an overflow or a
-- quotient, 90 to 99 for a digit, 70 where there is no card.
abbrev pub ways_of : Notes → Op → ℕ → ℕ → List Way
ways_of notes NoOperation d i = in_order false (i ∷ []) false
ways_of notes Stop d i = ways_of_stop notes.programmed i
ways_of notes (Add a) d i = in_order false (i ∷ []) true
ways_of notes (ResetAdd a) d i = in_order false (i ∷ []) false
ways_of notes Divide d i = in_order false (i ∷ []) true
ways_of notes DivideReset d i = in_order false (i ∷ []) true
ways_of notes Multiply d i = in_order false (i ∷ []) true
ways_of notes (Store s) d i = in_order false (i ∷ []) false
ways_of notes (Shift s) d i = in_order false (i ∷ []) false
ways_of notes (Branch b) d i = in_order false (d ∷ i ∷ []) false
ways_of notes LoadDistributor d i = in_order false (i ∷ []) false
ways_of notes Read d i = in_order true ((if notes.load_cards then d ∷ [] else []) ++ i ∷ []) false
ways_of notes Punch d i = in_order false (i ∷ []) false
ways_of notes (BranchOnDigit p) d i = in_order false (d ∷ i ∷ []) true

abbrev pub ways_with : Notes → Option Op → ℕ → ℕ → List Way
ways_with notes None d i = []
ways_with notes (Some op) d i =
    if is_operand (operand_of op) d then ways_of notes op d i else early ∷ []

-- the ways of an instruction; of one outside the profile, which no accepted deck executes, none
abbrev pub ways : Notes → Instruction → List Way
ways notes ins = ways_with notes (op_of ins.op) ins.d ins.i

-- The operations of a pattern's instructions are its one operation.
use Rattle.std.proofs.Common.{◌≡◌, ℕ, suc, ◌-◌, ◌<◌, ◌≤◌, eqb, Bool, true, false, List, [], ◌∷◌, ◌++◌, map}
use Rattle.std.proofs.Common.{refl, ap, sym, ◌∙◌, arith}
use Rattle.std.specs.Prelude.{cond, flat_map}
use Rattle.std.specs.List.{list_any, range_with_len}
use Rattle.base_words.specs.declared.instruction.Instruction.{Instruction}
use Rattle.base_notes.specs.declared.notes.pattern.Pattern.{Pattern}
use Rattle.base_notes.specs.Allowed.{matching}
use Rattle.flow_graph.specs.Executed.{with_new}
use Rattle.flow_graph.proofs.Additions.{added_alike}
use Rattle.flow_graph.proofs.Matched.{matching_at, matching_op}

-- the operation of an instruction
abbrev pub op_alone : Instruction → List ℕ
op_alone ins = ins.op ∷ []

-- those of several, one by one
pub all_alone : (instructions : List Instruction)
    → flat_map op_alone instructions ≡ map (λ (ins : Instruction). ins.op) instructions
all_alone [] = refl
all_alone (ins ∷ others) = ap (λ (ops : List ℕ). ins.op ∷ ops) (all_alone others)

pub one_operation : (ops : List ℕ) (pattern : Pattern)
    → with_new ops (flat_map op_alone (matching pattern)) ≡ with_new ops (pattern.op ∷ [])
one_operation ops pattern =
    added_alike op_alone pattern ops pattern.d_from (suc pattern.d_to) pattern.ordered
    (past pattern.d_from pattern.d_to pattern.ordered) (λ k low high. refl)
    ∙ ap (λ (n : ℕ). with_new (with_new ops (op_alone (matching_at pattern pattern.d_from)))
    (flat_map op_alone (map (matching_at pattern) (range_with_len (suc pattern.d_to) n)))) (none pattern.d_to)
    ∙ ap (λ (op : ℕ). with_new ops (op ∷ [])) (matching_op pattern)
  where
    past : (from to : ℕ) → from ≤ to → from < suc to
    past from to ordered = omega (arith, ordered)

    none : (to : ℕ) → suc to - suc to ≡ 0
    none to = omega arith

-- an operation adds itself, unless it is there
pub op_there : (ops : List ℕ) (op : ℕ) → list_any (λ one. eqb one op) ops ≡ true → ops ≡ with_new ops (op ∷ [])
op_there ops op there = sym (ap (λ (b : Bool). cond b ops (ops ++ op ∷ [])) there)

pub op_new : (ops : List ℕ) (op : ℕ) → list_any (λ one. eqb one op) ops ≡ false
    → ops ++ op ∷ [] ≡ with_new ops (op ∷ [])
op_new ops op new = sym (ap (λ (b : Bool). cond b ops (ops ++ op ∷ [])) new)

-- The operations outside the profile of a pattern's instructions are those of its one operation.
use Rattle.std.proofs.Common.{◌≡◌, ℕ, suc, ◌-◌, ◌<◌, ◌≤◌, Bool, true, false, eqb, List, [], ◌∷◌, ◌++◌, map, refl, ap, sym}
use Rattle.std.proofs.Common.{◌∙◌, arith}
use Rattle.std.specs.Prelude.{cond, flat_map, is_some}
use Rattle.std.specs.List.{list_any, range_with_len}
use Rattle.base_words.specs.declared.instruction.Instruction.{Instruction}
use Rattle.base_words.specs.Op.{op_of}
use Rattle.base_notes.specs.declared.notes.pattern.Pattern.{Pattern}
use Rattle.base_notes.specs.Allowed.{matching}
use Rattle.flow_graph.specs.Executed.{with_new}
use Rattle.flow_graph.proofs.Additions.{added_alike}
use Rattle.flow_graph.proofs.Matched.{matching_at, matching_op}
use Rattle.check_findings.specs.FoundAt.{outside}

abbrev pub outside_of : Instruction → List ℕ
outside_of ins = outside ins.op

pub one_operation : (operations : List ℕ) (pattern : Pattern)
    → with_new operations (flat_map outside_of (matching pattern)) ≡ with_new operations (outside pattern.op)
one_operation operations pattern =
    added_alike outside_of pattern operations pattern.d_from (suc pattern.d_to) pattern.ordered
    (past pattern.d_from pattern.d_to pattern.ordered) (λ k low high. refl)
    ∙ ap (λ (n : ℕ). with_new (with_new operations (outside_of (matching_at pattern pattern.d_from)))
    (flat_map outside_of (map (matching_at pattern) (range_with_len (suc pattern.d_to) n)))) (none pattern.d_to)
    ∙ ap (λ (op : ℕ). with_new operations (outside op)) (matching_op pattern)
  where
    past : (from to : ℕ) → from ≤ to → from < suc to
    past from to ordered = omega (arith, ordered)

    none : (to : ℕ) → suc to - suc to ≡ 0
    none to = omega arith

-- an operation in the profile adds nothing
pub inside_none : (op : ℕ) → is_some (op_of op) ≡ true → outside op ≡ []
inside_none op inside = ap (λ (b : Bool). cond b [] (op ∷ [])) inside

-- any other adds itself, unless it is there
pub outside_there : (operations : List ℕ) (op : ℕ) → is_some (op_of op) ≡ false
    → list_any (λ one. eqb one op) operations ≡ true → operations ≡ with_new operations (outside op)
outside_there operations op out there =
    sym (ap (with_new operations) (ap (λ (b : Bool). cond b [] (op ∷ [])) out)
    ∙ ap (λ (b : Bool). cond b operations (operations ++ op ∷ [])) there)

pub outside_new : (operations : List ℕ) (op : ℕ) → is_some (op_of op) ≡ false
    → list_any (λ one. eqb one op) operations ≡ false → operations ++ op ∷ [] ≡ with_new operations (outside op)
outside_new operations op out new =
    sym (ap (with_new operations) (ap (λ (b : Bool). cond b [] (op ∷ [])) out)
    ∙ ap (λ (b : Bool). cond b operations (operations ++ op ∷ [])) new)

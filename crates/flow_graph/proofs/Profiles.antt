-- By which ways the hops of a location end.
use Rattle.std.specs.Prelude.{◌≡◌, ℕ, Bool, true, false, List, [], ◌∷◌, map, flat_map, Option, Some, None, Contains}
use Rattle.std.specs.Prelude.{if◌then◌else◌}
use Rattle.std.proofs.Common.{suc, refl, sym, subst, inl, inr, arith}
use Rattle.std.proofs.lemmas.List.Elements.{Contains-append_cases}
use Rattle.base_words.specs.declared.instruction.Instruction.{Instruction}
use Rattle.base_words.specs.declared.op.Op.{Op}
use Rattle.base_words.specs.declared.word.Word.{Word}
use Rattle.base_words.specs.Op.{op_of, operand_of, is_operand}
use Rattle.base_notes.specs.Allowed.{Notes, allowed}
use Rattle.machine_steps.specs.Ways.{Way, early, ways, ways_of, ways_with}
use Rattle.base_graphs.proofs.Lists.{contains_cases}
use Rattle.flow_graph.specs.Hops.{Hop, hops, hops_of}
use Rattle.flow_graph.specs.Profile.{MayEnd}

-- each of the ways of an instruction is one by which it may end
pub way_may_end : (notes : Notes) (ins : Instruction) (way : Way) → Contains (ways notes ins) way → MayEnd ins way
way_may_end notes ins way h = by_op (op_of ins.op) refl h
  where
    by_operand : (op : Op) → op_of ins.op ≡ Some op → (fits : Bool) → is_operand (operand_of op) ins.d ≡ fits
        → Contains (if fits then ways_of notes op ins.d ins.i else early ∷ []) way → MayEnd ins way
    by_operand op is true fits there = (op, is, inr fits)
    by_operand op is false unfit there =
        elim (contains_cases early way [] there)
        [ inl same ↦ (op, is, inl (sym same)) | inr none ↦ absurd (omega (arith, none.1)) ]

    by_op : (one : Option Op) → op_of ins.op ≡ one → Contains (ways_with notes one ins.d ins.i) way → MayEnd ins way
    by_op None is there = absurd (omega (arith, there.1))
    by_op (Some op) is there = by_operand op is (is_operand (operand_of op) ins.d) refl there

-- and so is that of each hop of the instruction
of_instruction : (ins : Instruction) (all : List Way) (hop : Hop) → ((way : Way) → Contains all way → MayEnd ins way)
    → Contains (map (λ w. record { ins = ins; way = w }) all) hop → MayEnd hop.ins hop.way
of_instruction ins [] hop may there = absurd (omega (arith, there.1))
of_instruction ins (way ∷ all) hop may there =
    let first : Hop = record { ins = ins; way = way } in
    elim (contains_cases first hop (map (λ w. record { ins = ins; way = w }) all) there) [
      | inl same ↦ subst (λ (one : Hop). MayEnd one.ins one.way) same (may way (0, omega arith, refl))
      | inr behind ↦ of_instruction ins all hop (λ other h. may other (suc h.0, omega (arith, h.1), h.2)) behind
    ]

-- of each hop of some instructions
of_instructions : (notes : Notes) (all : List Instruction) (hop : Hop) → Contains (flat_map (hops_of notes) all) hop
    → MayEnd hop.ins hop.way
of_instructions notes [] hop there = absurd (omega (arith, there.1))
of_instructions notes (ins ∷ all) hop there =
    elim (Contains-append_cases (hops_of notes ins) (flat_map (hops_of notes) all) hop there) [
      | inl here ↦ of_instruction ins (ways notes ins) hop (way_may_end notes ins) here
      | inr behind ↦ of_instructions notes all hop behind
    ]

-- The instruction of each hop of a location may end by its way.
pub hop_may_end : (loads : ℕ → Option Word) (notes : Notes) (place : ℕ) (ins : Instruction) (way : Way)
    → Contains (hops loads notes place) (record { ins = ins; way = way }) → MayEnd ins way
hop_may_end loads notes place ins way there =
    of_instructions notes (allowed loads notes place) (record { ins = ins; way = way }) there

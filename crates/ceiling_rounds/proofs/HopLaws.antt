-- Which hops a location has.
use Rattle.std.proofs.Common.{ℕ, List, [], ◌∷◌, map, subst, sym, inl, inr, arith, Option}
use Rattle.std.specs.Prelude.{flat_map, Contains}
use Rattle.std.proofs.lemmas.List.Elements.{Contains-append_left, Contains-append_right}
use Rattle.base_words.specs.declared.instruction.Instruction.{Instruction}
use Rattle.base_words.specs.declared.word.Word.{Word}
use Rattle.base_notes.specs.Allowed.{allowed, Notes}
use Rattle.machine_steps.specs.Ways.{Way, ways}
use Rattle.base_graphs.proofs.Lists.{contains_cases, contains_here, contains_there}
use Rattle.flow_graph.specs.Hops.{Hop, hops, hops_of}

way_there : (ins : Instruction) (all : List Way) (way : Way) → Contains all way
    → let rest : List Hop = map (λ w. record { ins = ins; way = w }) all in
    let own : Hop = record { ins = ins; way = way } in
    Contains rest own
way_there ins [] way has = absurd (omega (arith, has.1))
way_there ins (one ∷ all) way has =
    let first : Hop = record { ins = ins; way = one } in
    let own : Hop = record { ins = ins; way = way } in
    let rest : List Hop = map (λ w. record { ins = ins; way = w }) all in
    elim (contains_cases one way all has) [
      | inl same ↦ subst (λ (w : Way). Contains (first ∷ rest) (record { ins = ins; way = w })) same
          (contains_here first rest)
      | inr behind ↦ contains_there first own rest (way_there ins all way behind)
    ]

of_some : (notes : Notes) (all : List Instruction) (ins : Instruction) (way : Way) → Contains all ins
    → Contains (ways notes ins) way → Contains (flat_map (hops_of notes) all) (record { ins = ins; way = way })
of_some notes [] ins way has may = absurd (omega (arith, has.1))
of_some notes (one ∷ all) ins way has may =
    let own : Hop = record { ins = ins; way = way } in
    elim (contains_cases one ins all has) [
      | inl same ↦ Contains-append_left (hops_of notes one) (flat_map (hops_of notes) all) own
          (subst (λ (i : Instruction). Contains (hops_of notes i) own) (sym same) (way_there ins (ways notes ins) way may))
      | inr behind ↦ Contains-append_right (hops_of notes one) (flat_map (hops_of notes) all) own
          (of_some notes all ins way behind may)
    ]

-- an instruction that is allowed there, with one of its ways
pub hop_there : (loads : ℕ → Option Word) (notes : Notes) (place : ℕ) (ins : Instruction) (way : Way)
    → Contains (allowed loads notes place) ins → Contains (ways notes ins) way
    → Contains (hops loads notes place) (record { ins = ins; way = way })
hop_there loads notes place ins way has may = of_some notes (allowed loads notes place) ins way has may

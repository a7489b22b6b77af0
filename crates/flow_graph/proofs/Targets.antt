-- A hop that goes on is one of a list exactly where its target is one of the targets.
use Rattle.std.proofs.Common.{◌≡◌, ℕ, List, [], ◌∷◌, ap, subst, inl, inr}
use Rattle.std.specs.Prelude.{Contains, filter_map}
use Rattle.base_words.specs.declared.instruction.Instruction.{Instruction}
use Rattle.machine_steps.specs.Ways.{Way, early, to, late}
use Rattle.base_graphs.proofs.Lists.{contains_here, contains_there, contains_cases, contains_none}
use Rattle.flow_graph.specs.Executed.{target_of}
use Rattle.flow_graph.specs.Hops.{Hop}

-- a hop that goes on is one of the list exactly where its target is one of the targets
abbrev targets : List Hop → List ℕ
targets all = filter_map (λ hop. target_of hop.way) all

pub target_there : (all : List Hop) (ins : Instruction) (next : ℕ) → Contains all (record { ins = ins; way = to next })
    → Contains (targets all) next
target_there [] ins next there = absurd (contains_none _ there)
target_there (hop ∷ others) ins next there =
    elim (contains_cases hop (record { ins = ins; way = to next }) others there) [
      | inl same ↦ here hop.way (ap (λ (h : Hop). h.way) same)
      | inr behind ↦ later hop.way (target_there others ins next behind)
    ]
  where
    here : (way : Way) → way ≡ to next → Contains (targets (record { ins = hop.ins; way = way } ∷ others)) next
    here early e = cc
    here (to one) e =
        let same : one ≡ next = cc in
        subst (λ (z : ℕ). Contains (one ∷ targets others) z) same (contains_here one (targets others))
    here late e = cc

    later : (way : Way) → Contains (targets others) next
        → Contains (targets (record { ins = hop.ins; way = way } ∷ others)) next
    later early there = there
    later (to one) there = contains_there one next (targets others) there
    later late there = there

pub hop_there : (all : List Hop) (next : ℕ) → Contains (targets all) next → (ins : Instruction)
    × Contains all (record { ins = ins; way = to next })
hop_there [] next there = absurd (contains_none next there)
hop_there (hop ∷ others) next there = go hop.way there (hop_there others next)
  where
    go : (way : Way) → Contains (targets (record { ins = hop.ins; way = way } ∷ others)) next
        → (Contains (targets others) next → (ins : Instruction) × Contains others (record { ins = ins; way = to next }))
        → (ins : Instruction) × Contains (record { ins = hop.ins; way = way } ∷ others)
        (record { ins = ins; way = to next })
    go early here more =
        let found : (ins : Instruction) × Contains others (record { ins = ins; way = to next }) = more here in
        (found.0, contains_there _ _ others found.1)
    go (to one) here more = elim (contains_cases one next (targets others) here) [
      | inl same ↦ (
        hop.ins,
        subst
            (λ (z : ℕ). Contains {X = Hop} (record { ins = hop.ins; way = to one } ∷ others)
            (record { ins = hop.ins; way = to z })) same (contains_here _ others),
      )
      | inr behind ↦ (let found : (ins : Instruction)
          × Contains others (record { ins = ins; way = to next }) = more behind in
          (found.0, contains_there _ _ others found.1))
    ]
    go late here more =
        let found : (ins : Instruction) × Contains others (record { ins = ins; way = to next }) = more here in
        (found.0, contains_there _ _ others found.1)

-- One of many with a property, as a loop over them looks for it.
use Rattle.std.proofs.Common.{◌≡◌, ◌≢◌, ℕ, ◌+◌, ◌<◌, ◌≤◌, Bool, eqb, true, false, List, length, take, slice_index_or}
use Rattle.std.proofs.Common.{refl, sym, ◌∙◌, subst, inl, inr, ◌⊎◌}
use Rattle.std.specs.Prelude.{slice_index, Contains, IsTrue, not, ◌↔◌}
use Rattle.std.proofs.lemmas.Bool.Decides.{Decides-eqb}
use Rattle.std.proofs.lemmas.List.{take_all, take_more}
use Rattle.std.proofs.lemmas.List.Elements.{Contains-get_or, Contains-push_cases}
use Rattle.std.specs.Prelude.{slice_get, Some}
use Rattle.std.proofs.lemmas.Option.{get_or_from_slice_get}
use Rattle.flow_graph.specs.declared.flow_graph.Flow.{Flow}
use Rattle.flow_graph.specs.Flow.{nodes_of}
use Rattle.flow_graph.specs.Hops.{Node}
use Rattle.flow_graph.proofs.Orders.{place_at}
use Rattle.flow_loops.specs.Closing.{places_in}
use Rattle.flow_loops.specs.Reached.{HasSuch}

-- the location that the flow graph's node at an index is told to be at
pub place_told : (flow : Flow) (k number : ℕ) → (one : Node) × (slice_get (nodes_of flow) k ≡ Some one) × (number ≡ one.place)
    → slice_index (places_in flow) k ≡ number
place_told flow k number at =
    get_or_from_slice_get (places_in flow) k at.0.place 0 (place_at (nodes_of flow) k at.0 at.1) ∙ sym at.2

module _ (IsSuch : ℕ → Type 0) (nodes : List ℕ) where
  -- of one more, which hasn't the property, none
  pub such_more : (k : ℕ) → k < length nodes → ¬ HasSuch IsSuch (take k nodes) → ¬ IsSuch (slice_index_or nodes k 0)
      → ¬ HasSuch IsSuch (take (k + 1) nodes)
  such_more k below before not has =
      elim (Contains-push_cases (take k nodes) (slice_index_or nodes k 0) has.0
      (subst (λ (all : List ℕ). Contains all has.0) (take_more nodes k 0 below) has.1)) [
        | inl earlier ↦ before (has.0, earlier, has.2)
        | inr same ↦ not (subst IsSuch (sym same) has.2)
      ]

  -- one that has it
  pub such_here : (k : ℕ) → k < length nodes → IsSuch (slice_index_or nodes k 0) → IsTrue true ↔ HasSuch IsSuch nodes
  such_here k below is = (
    λ yes. (slice_index_or nodes k 0, Contains-get_or nodes k 0 below, is),
    λ has. refl,
  )

  -- of all, none
  pub such_nowhere : (k : ℕ) → length nodes ≤ k → ¬ HasSuch IsSuch (take k nodes) → IsTrue false ↔ HasSuch IsSuch nodes
  such_nowhere k past none = (
    λ yes. let clash : false ≡ true = yes in cc,
    λ has. absurd (none (subst (HasSuch IsSuch) (sym (take_all k nodes past)) has)),
  )

-- a property of all that is one of those that a list has
pub such_said : (IsSuch Leads : ℕ → Type 0) (nodes : List ℕ) → ((node : ℕ) → Contains nodes node ↔ Leads node)
    → (answer : Bool) → (IsTrue answer ↔ HasSuch IsSuch nodes)
    → IsTrue answer ↔ ((node : ℕ) × Leads node × IsSuch node)
such_said IsSuch Leads nodes same answer is = (
  λ yes. let found = is.0 yes in (found.0, (same found.0).0 found.1, found.2),
  λ found. is.1 (found.0, (same found.0).1 found.1, found.2),
)

-- tests of two things, one after the other
pub both_so : (answer : Bool) (First Second : Type 0) → First → (IsTrue answer ↔ Second)
    → (IsTrue answer ↔ (First × Second))
both_so answer First Second first is = (λ yes. (first, is.0 yes), λ both. is.1 both.1)

pub neither_so : (a b : ℕ) (First Second : Type 0) → a ≢ b → ¬ First → (IsTrue (eqb a b) ↔ (First × Second))
neither_so a b First Second other not =
    (λ yes. absurd (other ((Decides-eqb a b).0 yes)), λ both. absurd (not both.0))

-- an answer that is no says that it isn't so
pub denied : (answer : Bool) (Said : Type 0) → answer ≡ false → (IsTrue answer ↔ Said) → ¬ Said
denied answer Said fails is said =
    let clash : false ≡ true = sym fails ∙ is.1 said in cc

-- a test that fails, and one that doesn't
pub not_so : (answer : Bool) (Same Leads : Type 0) → ¬ Same → (IsTrue answer ↔ Leads)
    → (IsTrue (not answer) ↔ (Same ⊎ ¬ Leads))
not_so true Same Leads other is =
    (λ yes. let clash : false ≡ true = yes in cc, λ either. absurd (go either (is.0 refl)))
  where
    go : Same ⊎ ¬ Leads → Leads → ⊥
    go (inl same) lead = other same
    go (inr never) lead = never lead
not_so false Same Leads other is =
    (λ yes. inr (λ lead. let clash : false ≡ true = is.1 lead in cc), λ either. refl)

-- What is open stays so behind a step that makes no call and leaves no exit.
use Rattle.std.proofs.Common.{◌≡◌, ℕ, suc, Bool, true, false, ◌&&◌, eqb, List, [], ◌∷◌, ◌++◌, length, Option, ◌≤◌}
use Rattle.std.proofs.Common.{Some, None, refl, ap, ◌∙◌, arith}
use Rattle.std.specs.Prelude.{slice_get, if◌then◌else◌}
use Rattle.std.proofs.lemmas.Bool.{eqb-true}
use Rattle.base_notes.specs.declared.notes.call.Call.{Call}
use Rattle.base_notes.specs.EdgeOf.{edge_of}
use Rattle.base_notes.specs.Edges.{leads}
use Rattle.machine_steps.specs.Calls.{is_opening, opened, opened_by, way_behind}
use Rattle.machine_steps.specs.Since.{Edge}

-- one more call that isn't made along the edge
pub none_opened : (calls : List Call) (call : Call) (edge : Edge) (exit : ℕ) → opened_by calls edge exit ≡ None
    → leads edge.from edge.onto (edge_of call.edge) ≡ false → opened_by (calls ++ call ∷ []) edge exit ≡ None
none_opened [] call edge exit none apart =
    ap (λ (b : Bool). if b && eqb call.exit.number exit then Some call.back.number else None) apart
none_opened (one ∷ calls) call edge exit none apart =
    go (is_opening edge exit one) none (λ behind. none_opened calls call edge exit behind apart)
  where
    go : (opens : Bool) → (if opens then Some one.back.number else opened_by calls edge exit) ≡ None
        → (opened_by calls edge exit ≡ None → opened_by (calls ++ call ∷ []) edge exit ≡ None)
        → (if opens then Some one.back.number else opened_by (calls ++ call ∷ []) edge exit) ≡ None
    go true none others = cc
    go false none others = others none

-- the way back at an exit that the step neither leaves nor opens
way_stays : (all : List Call) (edge : Edge) (exit : ℕ) (way : Option ℕ) → opened_by all edge exit ≡ None
    → (exit ≡ edge.from → ⊥) → way_behind all edge exit way ≡ way
way_stays all edge exit way none other =
    ap (λ (o : Option ℕ). elim o as (λ _. Option ℕ)
    [ None ↦ if eqb exit edge.from then None else way | Some back ↦ Some back ]) none
    ∙ go (eqb exit edge.from) refl
  where
    go : (here : Bool) → eqb exit edge.from ≡ here → (if here then None else way) ≡ way
    go true is = absurd (other (eqb-true exit edge.from is))
    go false is = refl

pub stays_open : (all calls : List Call) (edge : Edge) (ways : List (Option ℕ))
    → ((exit : ℕ) → opened_by all edge exit ≡ None)
    → ((k : ℕ) (call : Call) → slice_get calls k ≡ Some call → call.exit.number ≡ edge.from → ⊥)
    → length ways ≤ length calls → opened all edge calls ways ≡ ways
stays_open all [] edge [] none others long = refl
stays_open all [] edge (way ∷ ways) none others long = absurd (omega (arith, long))
stays_open all (call ∷ calls) edge [] none others long = refl
stays_open all (call ∷ calls) edge (way ∷ ways) none others long =
    ap (λ (one : Option ℕ). one ∷ opened all edge calls ways)
    (way_stays all edge call.exit.number way (none call.exit.number) (others 0 call refl))
    ∙ ap (λ (rest : List (Option ℕ)). way ∷ rest)
    (stays_open all calls edge ways none (λ k one at. others (suc k) one at) (omega (arith, long)))

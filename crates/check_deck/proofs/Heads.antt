-- The locations at which edges share a mark, one edge more.
use Rattle.std.proofs.Common.{◌≡◌, ℕ, Bool, true, false, List, [], ◌∷◌, ◌++◌, refl, ap, sym, ◌∙◌, subst, inl, inr}
use Rattle.std.specs.Prelude.{Contains, ◌||◌}
use Rattle.std.specs.List.{list_any}
use Rattle.std.proofs.lemmas.Bool.{eqb-true}
use Rattle.std.proofs.lemmas.List.Elements.{Contains-append_left, Contains-push, Contains-push_cases}
use Rattle.base_graphs.proofs.Lists.{contains_here, contains_none, contains_there}
use Rattle.check_deck.specs.Insides.{goes_onto}

-- an edge of these that goes back to the location
goer : (edges : List (ℕ × ℕ)) (head : ℕ) → list_any (goes_onto head) edges ≡ true
    → (edge : ℕ × ℕ) × Contains edges edge × (edge.1 ≡ head)
goer [] head e = cc
goer (edge ∷ edges) head e = go (goes_onto head edge) refl e (goer edges head)
  where
    go : (b : Bool) → goes_onto head edge ≡ b → (b || list_any (goes_onto head) edges) ≡ true
        → (list_any (goes_onto head) edges ≡ true → (one : ℕ × ℕ) × Contains edges one × (one.1 ≡ head))
        → (one : ℕ × ℕ) × Contains (edge ∷ edges) one × (one.1 ≡ head)
    go true is e more = (edge, contains_here edge edges, eqb-true edge.1 head is)
    go false is e more = ((more e).0, contains_there edge (more e).0 edges (more e).1, (more e).2)

-- So far: the locations that have a property, of those that edges go back to.
pub record AreTold (P : ℕ → Type 0) (edges : List (ℕ × ℕ)) (heads : List ℕ) : Type 0 where
  pub only : (head : ℕ) → Contains heads head → P head
  pub all : (edge : ℕ × ℕ) → Contains edges edge → P edge.1 → Contains heads edge.1

module _ (P : ℕ → Type 0) where
  pub told_none : AreTold P [] []
  told_none = record {
    only = λ head there. absurd (contains_none head there);
    all = λ edge there. absurd (contains_none edge there);
  }

  -- one edge more: an earlier one goes back there too, or its location hasn't the property, or has it
  pub told_known : (edges : List (ℕ × ℕ)) (edge : ℕ × ℕ) (heads : List ℕ) → AreTold P edges heads
      → list_any (goes_onto edge.1) edges ≡ true → AreTold P (edges ++ edge ∷ []) heads
  told_known edges edge heads so known = record {
    only = so.only;
    all = λ one there is. elim (Contains-push_cases edges edge one there) [
      | inl earlier ↦ so.all one earlier is
      | inr same ↦ again one same is
    ];
  }
    where
      again : (one : ℕ × ℕ) → edge ≡ one → P one.1 → Contains heads one.1
      again one same is =
          let other = goer edges edge.1 known in
          let alike : other.0.1 ≡ one.1 = other.2 ∙ ap (λ (e : ℕ × ℕ). e.1) same in
          subst (λ (n : ℕ). Contains heads n) alike (so.all other.0 other.1 (subst P (sym alike) is))

  pub told_out : (edges : List (ℕ × ℕ)) (edge : ℕ × ℕ) (heads : List ℕ) → AreTold P edges heads → ¬ P edge.1
      → AreTold P (edges ++ edge ∷ []) heads
  told_out edges edge heads so not = record {
    only = so.only;
    all = λ one there is. elim (Contains-push_cases edges edge one there) [
      | inl earlier ↦ so.all one earlier is
      | inr same ↦ absurd (not (subst (λ (e : ℕ × ℕ). P e.1) (sym same) is))
    ];
  }

  pub told_in : (edges : List (ℕ × ℕ)) (edge : ℕ × ℕ) (heads : List ℕ) → AreTold P edges heads → P edge.1
      → AreTold P (edges ++ edge ∷ []) (heads ++ edge.1 ∷ [])
  told_in edges edge heads so is = record {
    only = λ head there. elim (Contains-push_cases heads edge.1 head there) [
      | inl earlier ↦ so.only head earlier
      | inr same ↦ subst P same is
    ];
    all = λ one there has. elim (Contains-push_cases edges edge one there) [
      | inl earlier ↦ Contains-append_left heads (edge.1 ∷ []) one.1 (so.all one earlier has)
      | inr same ↦ subst (λ (e : ℕ × ℕ). Contains (heads ++ edge.1 ∷ []) e.1) same (Contains-push heads edge.1)
    ];
  }

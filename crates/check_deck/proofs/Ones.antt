-- One of a list that has a property, where the list gets longer.
use Rattle.std.proofs.Common.{◌≡◌, ℕ, ◌+◌, ◌<◌, List, [], ◌∷◌, ◌++◌, map, take, drop, length, get_or, sym, subst, inl, inr, ◌⊎◌}
use Rattle.std.proofs.lemmas.List.{map-append, take-append-drop}
use Rattle.check_deck.specs.Insides.{HasOne}
use Rattle.check_deck.proofs.Numbered.{edges_more}

module _ {X : Type 0} (P : X → Type 0) where
  pub one_more : (xs ys : List X) → HasOne P xs → HasOne P (xs ++ ys)
  one_more [] ys has = absurd has
  one_more (x ∷ xs) ys (inl is) = inl is
  one_more (x ∷ xs) ys (inr has) = inr (one_more xs ys has)

  pub one_last : (xs : List X) (x : X) → P x → HasOne P (xs ++ x ∷ [])
  one_last [] x is = inl is
  one_last (y ∷ xs) x is = inr (one_last xs x is)

  pub one_cases : (xs : List X) (x : X) → HasOne P (xs ++ x ∷ []) → HasOne P xs ⊎ P x
  one_cases [] x (inl is) = inr is
  one_cases [] x (inr has) = absurd has
  one_cases (y ∷ xs) x (inl is) = inl (inl is)
  one_cases (y ∷ xs) x (inr has) = elim (one_cases xs x has) [
    | inl earlier ↦ inl (inr earlier)
    | inr last ↦ inr last
  ]

-- The first things of a list, with one thing more: where it has the property one of all has it.
module _ {X Y : Type 0} (P : Y → Type 0) (f : X → Y) (xs : List X) (k : ℕ) (x : X) (inside : k < length xs)
    (here : x ≡ get_or xs k x) where
  pub one_here : P (f x) → HasOne P (map f xs)
  one_here is =
      subst (λ (all : List X). HasOne P (map f all)) (take-append-drop (k + 1) xs)
      (subst (HasOne P) (sym (map-append f (take (k + 1) xs) (drop (k + 1) xs)))
      (one_more P (map f (take (k + 1) xs)) (map f (drop (k + 1) xs))
      (subst (HasOne P) (sym (edges_more f xs k x inside here)) (one_last P (map f (take k xs)) (f x) is))))

  pub none_here : ¬ HasOne P (map f (take k xs)) → ¬ P (f x) → ¬ HasOne P (map f (take (k + 1) xs))
  none_here none not has =
      elim (one_cases P (map f (take k xs)) (f x) (subst (HasOne P) (edges_more f xs k x inside here) has)) [
        | inl earlier ↦ none earlier
        | inr last ↦ not last
      ]

-- How many of some edges have a property, and which of some marks is the last that has it, one more.
use Rattle.std.proofs.Common.{◌≡◌, ℕ, suc, ◌+◌, ◌<◌, List, [], ◌∷◌, ◌++◌, map, take, length, get_or, refl, ap, sym}
use Rattle.std.proofs.Common.{◌∙◌, subst, inl, inr, arith, length-append, length-take, append_assoc, Option, Some, None}
use Rattle.std.proofs.lemmas.List.{append-nil, map_more, take_more}
use Rattle.std.proofs.lemmas.List.Elements.{Contains-push_cases}
use Rattle.base_graphs.proofs.Lists.{contains_none}
use Rattle.check_deck.specs.Insides.{AreSoMany, IsLastNumber}
use Rattle.check_deck.proofs.Unsaids.{one_in, one_out, those_append}

module _ (P : ℕ × ℕ → Type 0) where
  pub many_none : AreSoMany P [] 0
  many_none = record { those = []; are = refl; counted = refl }

  -- one edge more, without the property or with it
  pub many_out : (xs : List (ℕ × ℕ)) (x : ℕ × ℕ) (n : ℕ) → AreSoMany P xs n → ¬ P x → AreSoMany P (xs ++ x ∷ []) n
  many_out xs x n so not = record {
    those = so.those ++ [];
    are = those_append P xs (x ∷ []) so.those [] so.are (one_out P x not);
    counted = ap length (append-nil so.those) ∙ so.counted;
  }

  pub many_in : (xs : List (ℕ × ℕ)) (x : ℕ × ℕ) (n : ℕ) → AreSoMany P xs n → P x → AreSoMany P (xs ++ x ∷ []) (n + 1)
  many_in xs x n so is = record {
    those = so.those ++ x ∷ [];
    are = those_append P xs (x ∷ []) so.those (x ∷ []) so.are (one_in P x is);
    counted = omega (arith, length-append so.those (x ∷ []), so.counted);
  }

module _ (P : List (ℕ × ℕ) → Type 0) where
  pub last_none : IsLastNumber P [] None
  last_none mark there = absurd (contains_none mark there)

  pub last_in : (xs : List (List (ℕ × ℕ))) (x : List (ℕ × ℕ)) (n : ℕ) → n ≡ suc (length xs) → P x
      → IsLastNumber P (xs ++ x ∷ []) (Some n)
  last_in xs x n here is = (xs, x, [], refl, here, is, λ other there. absurd (contains_none other there))

  pub last_out : (xs : List (List (ℕ × ℕ))) (x : List (ℕ × ℕ)) (number : Option ℕ) → IsLastNumber P xs number → ¬ P x
      → IsLastNumber P (xs ++ x ∷ []) number
  last_out xs x None none not = λ mark there. elim (Contains-push_cases xs x mark there) [
    | inl earlier ↦ none mark earlier
    | inr same ↦ (λ is. not (subst P (sym same) is))
  ]
  last_out xs x (Some number) last not = (
    last.0,
    last.1,
    last.2 ++ x ∷ [],
    ap (λ (all : List (List (ℕ × ℕ))). all ++ x ∷ []) last.3 ∙ append_assoc last.0 (last.1 ∷ last.2) (x ∷ []),
    last.4,
    last.5,
    λ other there. elim (Contains-push_cases last.2 x other there) [
      | inl earlier ↦ last.6 other earlier
      | inr same ↦ (λ is. not (subst P (sym same) is))
    ],
  )

-- the first things of a list, with one thing more
module _ {X Y : Type 0} (edge_in : X → Y) (xs : List X) (k : ℕ) (x : X) (inside : k < length xs)
    (here : x ≡ get_or xs k x) where
  pub edges_more : map edge_in (take (k + 1) xs) ≡ map edge_in (take k xs) ++ edge_in x ∷ []
  edges_more = map_more edge_in xs k x inside
      ∙ ap (λ (one : X). map edge_in (take k xs) ++ edge_in one ∷ []) (sym here)

module _ {X : Type 0} (xs : List X) (k : ℕ) (x : X) (inside : k < length xs) (here : x ≡ get_or xs k x) where
  pub things_more : take (k + 1) xs ≡ take k xs ++ x ∷ []
  things_more = take_more xs k x inside ∙ ap (λ (one : X). take k xs ++ one ∷ []) (sym here)

  pub things_before : k + 1 ≡ suc (length (take k xs))
  things_before = omega (arith, length-take k xs, inside)

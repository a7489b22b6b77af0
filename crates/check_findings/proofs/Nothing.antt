-- Lists in which nothing is, by what they were made of.
use Rattle.std.proofs.Common.{◌≡◌, ℕ, Bool, true, false, List, [], ◌∷◌, ◌++◌, map, length, refl, ap, sym, ◌∙◌, subst}
use Rattle.std.proofs.Common.{inl, inr, ◌⊎◌, arith, length-append}
use Rattle.std.specs.Prelude.{Contains, cond, filter, flat_map}
use Rattle.std.proofs.lemmas.List.Elements.{Contains-append_left, Contains-append_right}
use Rattle.base_graphs.proofs.Lists.{contains_cases, contains_here, contains_none, contains_there}
use Rattle.flow_graph.specs.Executed.{with_new}
use Rattle.flow_graph.proofs.Orders.{with_new_has}

-- members of a member's list, and members that pass a test
pub in_flat_map : {X : Type 0} (f : X → List ℕ) (xs : List X) (x : X) (y : ℕ) → Contains xs x → Contains (f x) y
    → Contains (flat_map f xs) y
in_flat_map f [] x y there here = absurd (contains_none x there)
in_flat_map f (a ∷ xs) x y there here = elim (contains_cases a x xs there) [
  | inl same ↦ Contains-append_left (f a) (flat_map f xs) y (subst (λ (one : _). Contains (f one) y) (sym same) here)
  | inr behind ↦ Contains-append_right (f a) (flat_map f xs) y (in_flat_map f xs x y behind here)
]

pub in_filter : (p : ℕ → Bool) (xs : List ℕ) (x : ℕ) → p x ≡ true → Contains xs x → Contains (filter p xs) x
in_filter p [] x is there = absurd (contains_none x there)
in_filter p (a ∷ xs) x is there = go (p a) refl (contains_cases a x xs there) (in_filter p xs x is)
  where
    go : (b : Bool) → p a ≡ b → (a ≡ x) ⊎ Contains xs x → (Contains xs x → Contains (filter p xs) x)
        → Contains (cond b (a ∷ filter p xs) (filter p xs)) x
    go true e (inl same) more = subst (λ (z : ℕ). Contains (a ∷ filter p xs) z) same (contains_here a (filter p xs))
    go true e (inr behind) more = contains_there a x (filter p xs) (more behind)
    go false e (inl same) more = let clash : true ≡ false = sym is ∙ ap p (sym same) ∙ e in cc
    go false e (inr behind) more = more behind

-- where nothing was added there was nothing to add
pub none_added : (xs : List ℕ) (x : ℕ) → with_new [] xs ≡ [] → ¬ Contains xs x
none_added xs x none there =
    contains_none x (subst (λ (all : List ℕ). Contains all x) none (with_new_has [] xs x there))

-- the parts of nothing
pub both_nothing : {X : Type 0} (xs ys : List X) → [] ≡ xs ++ ys → (xs ≡ []) × (ys ≡ [])
both_nothing [] ys e = (refl, sym e)
both_nothing (x ∷ xs) ys e = cc

-- what stands before a list that is no longer with it is nothing
pub before_nothing : {X : Type 0} (xs ys : List X) → ys ≡ xs ++ ys → xs ≡ []
before_nothing [] ys e = refl
before_nothing (x ∷ xs) ys e =
    absurd (omega (arith, ap (λ (zs : List _). length zs) e, length-append (x ∷ xs) ys))

pub of_nothing : {X Y : Type 0} (f : X → Y) (xs : List X) → map f xs ≡ [] → xs ≡ []
of_nothing f [] e = refl
of_nothing f (x ∷ xs) e = cc

pub each_nothing : {Y : Type 0} (f : ℕ → List Y) (xs : List ℕ) (x : ℕ) → flat_map f xs ≡ [] → Contains xs x → f x ≡ []
each_nothing f [] x e there = absurd (contains_none x there)
each_nothing f (a ∷ xs) x e there =
    let parts = both_nothing (f a) (flat_map f xs) (sym e) in
    elim (contains_cases a x xs there) [
      | inl same ↦ subst (λ (z : ℕ). f z ≡ []) same parts.0
      | inr behind ↦ each_nothing f xs x parts.1 behind
    ]

-- nothing of many
pub all_nothing : {X Y : Type 0} (f : X → List Y) (xs : List X) → ((x : X) → Contains xs x → f x ≡ [])
    → flat_map f xs ≡ []
all_nothing f [] none = refl
all_nothing f (a ∷ xs) none =
    ap (λ (ys : List _). ys ++ flat_map f xs) (none a (contains_here a xs))
    ∙ all_nothing f xs (λ x there. none x (contains_there a x xs there))

pub none_passes : (p : ℕ → Bool) (xs : List ℕ) → ((x : ℕ) → Contains xs x → p x ≡ false) → filter p xs ≡ []
none_passes p [] none = refl
none_passes p (a ∷ xs) none =
    ap (λ (b : Bool). cond b (a ∷ filter p xs) (filter p xs)) (none a (contains_here a xs))
    ∙ none_passes p xs (λ x there. none x (contains_there a x xs there))

-- How far before its end a list has a member: in an order in which every edge goes on, one leads lower.
use Rattle.std.proofs.Common.{◌≡◌, ◌≢◌, ℕ, suc, ◌<◌, ◌≤◌, Bool, true, false, List, ◌∷◌, length, []}
use Rattle.std.proofs.Common.{refl, ap, sym, ◌∙◌, subst, inl, inr, ◌⊎◌, arith, eqb}
use Rattle.std.specs.Prelude.{Contains, Decides}
use Rattle.std.proofs.lemmas.Bool.Decides.{Decides-eqb}
use Rattle.base_graphs.specs.Graph.{height, height_by, height_of, AreDifferent, GoOn, IsClosed, LeadRound}
use Rattle.base_graphs.proofs.Lists.{contains_there, contains_cases, contains_none}

module _ {X : Type 0} (same : X → X → Bool) (law : (a b : X) → Decides (same a b) (a ≡ b)) where
  -- what the test says of two
  pub tells : (a x : X) → ((same a x ≡ true) × (a ≡ x)) ⊎ ((same a x ≡ false) × (a ≢ x))
  tells a x = go (same a x) refl
    where
      go : (is : Bool) → same a x ≡ is → ((same a x ≡ true) × (a ≡ x)) ⊎ ((same a x ≡ false) × (a ≢ x))
      go true e = inl (e, (law a x).0 e)
      go false e = inr (e, λ equal. let clash : ◌≡◌ {A = Bool} true false = sym ((law a x).1 equal) ∙ e in cc)

  pub height_of_here : (a x : X) (xs : List X) → a ≡ x → height_of same (a ∷ xs) x ≡ suc (length xs)
  height_of_here a x xs equal = ap (λ (b : Bool). height_by b (suc (length xs)) (height_of same xs x)) ((law a x).1 equal)

  pub height_of_there : (a x : X) (xs : List X) → a ≢ x → height_of same (a ∷ xs) x ≡ height_of same xs x
  height_of_there a x xs ne = elim (tells a x) [
    | inl equal ↦ absurd (ne equal.1)
    | inr other ↦ ap (λ (b : Bool). height_by b (suc (length xs)) (height_of same xs x)) other.0
  ]

  pub height_of_low : (xs : List X) (x : X) → height_of same xs x ≤ length xs
  height_of_low [] x = omega arith
  height_of_low (a ∷ xs) x = elim (tells a x) [
    | inl equal ↦ omega (arith, height_of_here a x xs equal.1)
    | inr other ↦ omega (arith, height_of_there a x xs other.1, height_of_low xs x)
  ]

  module _ (Edge : X → X → Type 0) where
    -- an edge leads to a later member
    pub lower_of : (xs : List X) (u v : X) → AreDifferent xs → GoOn Edge xs → Contains xs u
        → Edge u v → Contains xs v × (height_of same xs v < height_of same xs u)
    lower_of [] u v d onward there edge = absurd (contains_none u there)
    lower_of (a ∷ xs) u v d onward there edge = elim (tells a u) [
      | inl equal ↦ (
          let next : Contains xs v = onward.0 v (subst (λ n. Edge n v) (sym equal.1) edge) in
          let ne : a ≢ v = λ e. d.0 (subst (λ n. Contains xs n) (sym e) next) in (
            contains_there a v xs next,
            omega (arith, height_of_here a u xs equal.1, height_of_there a v xs ne, height_of_low xs v),
          ))
      | inr other ↦ (
          let behind : Contains xs u =
          elim (contains_cases a u xs there) [ inl equal ↦ absurd (other.1 equal) | inr later ↦ later ] in
          let less = lower_of xs u v d.1 onward.1 behind edge in
          let ne : a ≢ v = λ e. d.0 (subst (λ n. Contains xs n) (sym e) less.0) in (
            contains_there a v xs less.0,
            omega (arith, height_of_there a u xs other.1, height_of_there a v xs ne, less.1),
          ))
    ]

    round_lower : (order : List X) (first node : X) (xs : List X) → AreDifferent order → GoOn Edge order
        → Contains order node → LeadRound Edge first node xs
        → height_of same order first < height_of same order node
    round_lower order first node [] d onward there round = (lower_of order node first d onward there round).1
    round_lower order first node (next ∷ xs) d onward there round =
        let less = lower_of order node next d onward there round.0 in
        omega (arith, less.1, round_lower order first next xs d onward less.0 round.1)

    -- where every edge goes on, none lead round
    pub no_round : (order : List X) (first : X) (xs : List X) → AreDifferent order → GoOn Edge order
        → Contains order first → ¬ IsClosed Edge (first ∷ xs)
    no_round order first xs d onward there closed =
        let less : height_of same order first < height_of same order first =
        round_lower order first first xs d onward there closed in
        omega (arith, less)

-- the same of locations
pub height_here : (a x : ℕ) (xs : List ℕ) → a ≡ x → height (a ∷ xs) x ≡ suc (length xs)
height_here = height_of_here eqb Decides-eqb

pub height_there : (a x : ℕ) (xs : List ℕ) → a ≢ x → height (a ∷ xs) x ≡ height xs x
height_there = height_of_there eqb Decides-eqb
